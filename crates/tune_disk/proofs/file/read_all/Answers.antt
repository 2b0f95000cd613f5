use Rattle.std.proofs.Common.{rules}
use Rattle.std.proofs.lemmas.List.{places}
use Rattle.tune_disk.specs.Inside.ToldMore.{IsToldRead}
use Rattle.tune_disk.proofs.Told.{read_join}
use Rattle.tune_disk.proofs.file.read_all.Goals as goal

pub loop-done-preserved : goal.loop-done-preserved
loop-done-preserved c =
    let n = c.in_ok-done.field-0 in
    let done = c.loop-done in
    let now = c.read_part.new in
    let part : IsToldRead _ n now.into done.log.items now.log.items = c.in_ok-done.ensures.ok in
    record {
      within = search rules;
      same = search rules;
      told =
          read_join c.args.at done.done n done.into now.into _ c.args.log.now.items done.log.items now.log.items done.invariant.told part
          (λ k lt. search (rules, places)) (λ k lt. search (rules, places));
    }
