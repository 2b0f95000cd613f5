use Rattle.std.proofs.Common.{◌≡◌, ◌≤◌, ◌+◌, ◌∙◌, ap, arith, take}
use Rattle.sha2.specs.Sha256.{sha256}
use Rattle.desk_copies.proofs.CopyLemmas.{looked_then, take_whole, turn_copied, turn_summed}
use Rattle.desk_copies.proofs.disk_copies.copy_parts.Goals as goal

pub returns-in_err-copy_part-clause-from : goal.returns-in_err-copy_part-clause-from
returns-in_err-copy_part-clause-from g c = looked_then g.D.Disk.honest g.D.Disk.state _ _ _ c.loop-at.invariant.from c.copy_part.ensures.from

pub loop-at-preserved : goal.loop-at-preserved
loop-at-preserved g c =
    let honest = g.D.Disk.honest in
    let state = g.D.Disk.state in
    let inv = c.loop-at.invariant in
    let within : c.loop-at.at + c.min-some.result ≤ c.args.size = grind (arith, c.min-some.ensures, c.loop-at-test.true) in
    record {
      within = within;
      from = looked_then honest state _ _ _ inv.from c.copy_part.ensures.from;
      to = λ k. inv.to (c.copy_part.ensures.to k);
      copied = turn_copied honest state _ _ _ _ _ _ c.args.size c.loop-at.at c.min-some.result inv.from c.copy_part.ensures.from c.copy_part.ensures.to
          inv.copied c.in_ok-copy_part.ensures.copied within;
      summed = turn_summed honest state _ _ _ _ _ c.args.size c.loop-at.at c.min-some.result inv.from c.copy_part.ensures.from inv.summed
          c.in_ok-copy_part.ensures.summed within;
    }

pub returns-clause-copied : goal.returns-clause-copied
returns-clause-copied g c = λ h k sized none.
    let file = (g.D.Disk.state c.args.from.now).seen in
    let all : take c.loop-at.at file ≡ file = take_whole file c.args.size c.loop-at.at sized c.loop-at-test.false in (
      c.loop-at.invariant.copied h k sized none ∙ all,
      c.finalize.ensures (take c.loop-at.at file) (c.loop-at.invariant.summed h sized) ∙ ap sha256 all,
    )
