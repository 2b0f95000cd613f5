use Rattle.std.proofs.Common.{ℕ, ◌+◌, ◌-◌, ◌/◌, arith}
use Rattle.tune_contents.proofs.RowLemmas.{lesser, not_lesser}
use Rattle.tune_contents.proofs.tune_rows.place_from.Goals as goal

pub loop-first-preserved : goal.loop-first-preserved
loop-first-preserved c =
    let kept = c.loop-first.invariant in
    let middle : ℕ = c.loop-first.first + (c.loop-first.last - c.loop-first.first) / 2 in
    record {
      ordered = omega arith;
      within = omega (arith, kept.within);
      before = kept.before;
      after = λ rises. not_lesser c.args.number c.args.rows.now.items middle c.at.result rises (omega (arith, kept.within)) c.at.ensures c.if-at-number.false;
    }

pub loop-first-preserved-then-at-number : goal.loop-first-preserved-then-at-number
loop-first-preserved-then-at-number c =
    let kept = c.loop-first.invariant in
    let middle : ℕ = c.loop-first.first + (c.loop-first.last - c.loop-first.first) / 2 in
    record {
      ordered = omega arith;
      within = kept.within;
      before = λ rises. lesser c.args.number c.args.rows.now.items middle c.at.result rises (omega (arith, kept.within)) c.at.ensures c.if-at-number.true;
      after = kept.after;
    }
