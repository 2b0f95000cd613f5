use Rattle.std.proofs.Common.{◌+◌, ◌-◌, ◌/◌, ◌<◌, ◌≤◌, arith, inl, inr}
use Rattle.std.proofs.lemmas.Bool.{cases_lt}
use Rattle.index_keys.specs.Entries.{rank}
use Rattle.tune_index.proofs.Slots.{lower, upper}
use Rattle.tune_index.proofs.search.place_of.Goals as goal

pub loop-low-preserved-then-is_before : goal.loop-low-preserved-then-is_before
loop-low-preserved-then-is_before g c =
    let r = rank (c.args.key.now, c.args.value) in
    let m = c.loop-low.low + (c.loop-low.high - c.loop-low.low) / 2 in
    let below : rank c.index-entries-middle.result < r = c.is_before.ensures.0 c.if-is_before.true in
    record {
      ordered = omega arith;
      within = c.loop-low.invariant.within;
      before = λ up. lower c.args.entries.now m r c.index-entries-middle.result up (omega arith) c.index-entries-middle.is below;
      after = c.loop-low.invariant.after;
    }

pub loop-low-preserved : goal.loop-low-preserved
loop-low-preserved g c =
    let r = rank (c.args.key.now, c.args.value) in
    let m = c.loop-low.low + (c.loop-low.high - c.loop-low.low) / 2 in
    let above : r ≤ rank c.index-entries-middle.result = elim (cases_lt (rank c.index-entries-middle.result) r) [
      | inl below ↦ absurd (let t = c.is_before.ensures.1 below in let f = c.if-is_before.false in cc)
      | inr over ↦ over
    ] in
    record {
      ordered = omega arith;
      within = omega (arith, c.loop-low.invariant.within);
      before = c.loop-low.invariant.before;
      after = λ up. upper c.args.entries.now m r c.index-entries-middle.result up (omega arith) c.index-entries-middle.is above;
    }
