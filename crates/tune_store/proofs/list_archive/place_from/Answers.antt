use Rattle.std.proofs.Common.{ℕ, ◌+◌, ◌-◌, ◌/◌, arith}
use Rattle.tune_store.proofs.PlaceLemmas.{lesser, not_lesser}
use Rattle.tune_store.proofs.list_archive.place_from.Goals as goal

pub loop-first-preserved : goal.loop-first-preserved
loop-first-preserved c =
    let kept = c.loop-first.invariant in
    let middle : ℕ = c.loop-first.first + (c.loop-first.last - c.loop-first.first) / 2 in
    record {
      ordered = omega arith;
      within = omega (arith, kept.within);
      before = kept.before;
      behind = not_lesser c.args.number c.args.tunes.now.items middle c.get.result.now c.requires (omega (arith, kept.within)) c.get.ensures
          (rw c.tune.ensures at c.if-tune-number.false);
    }

pub loop-first-preserved-then-tune-number : goal.loop-first-preserved-then-tune-number
loop-first-preserved-then-tune-number c =
    let kept = c.loop-first.invariant in
    let middle : ℕ = c.loop-first.first + (c.loop-first.last - c.loop-first.first) / 2 in
    record {
      ordered = omega arith;
      within = kept.within;
      before = lesser c.args.number c.args.tunes.now.items middle c.get.result.now c.requires (omega (arith, kept.within)) c.get.ensures
          (rw c.tune.ensures at c.if-tune-number.true);
      behind = kept.behind;
    }
