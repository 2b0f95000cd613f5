use Rattle.std.proofs.Common.{◌≡◌, ◌-◌, List, ℕ, length, length-drop, take, drop, sym, subst, arith, rules}
use Rattle.std.proofs.Math.Seq.{take-add}
use Rattle.std.proofs.lemmas.List.{take_all}
use Rattle.tune_disk.specs.Inside.ToldMore.{IsToldTaken}
use Rattle.tune_disk.proofs.Told.{taken_none, taken_then}
use Rattle.tune_disk.proofs.file.write_parts.Goals as goal

pub loop-done-init : goal.loop-done-init
loop-done-init c = record { within = omega arith; told = taken_none c.args.log.now.items }

pub loop-done-preserved : goal.loop-done-preserved
loop-done-preserved c =
    let bytes = c.args.bytes.now in
    let n = c.in_ok-done.field-0 in
    let done = c.loop-done.done in
    let first = c.args.log.now.items in
    let now = c.write_part.new.log.items in
    let rest : take (length bytes - done) (drop done bytes) ≡ drop done bytes = take_all _ _ (omega (arith, length-drop done bytes)) in
    let part : IsToldTaken (take n (drop done bytes)) c.loop-done.log.items now =
    subst (λ (l : List ℕ). IsToldTaken (take n l) c.loop-done.log.items now) rest c.in_ok-done.ensures.ok in
    record {
      within = search rules;
      told =
          subst (λ (l : List ℕ). IsToldTaken l first now) (sym (take-add done n bytes))
          (taken_then (take done bytes) (take n (drop done bytes)) first c.loop-done.log.items now c.loop-done.invariant.told part);
    }
