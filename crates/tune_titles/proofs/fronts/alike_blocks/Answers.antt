use Rattle.std.proofs.Common.{◌+◌, sym, ◌∙◌, arith}
use Rattle.std.specs.List.{between}
use Rattle.std.proofs.lemmas.Slice.Eq.{bytes_eq-Decides}
use Rattle.tune_titles.proofs.OrderLemmas.{alike_more}
use Rattle.tune_titles.proofs.fronts.alike_blocks.Goals as goal

pub loop-at-preserved : goal.loop-at-preserved
loop-at-preserved c =
    let one = c.args.one.now in
    let other = c.args.other.now in
    let at = c.loop-at.at in
    let v = c.loop-at.invariant in
    let same = (bytes_eq-Decides (between at (at + 128) one) (between at (at + 128) other)).0 (sym c.eq.ensures ∙ c.if-eq.true) in
    record {
      one = omega (arith, c.loop-at-test.true);
      other = omega (arith, c.loop-at-test.true);
      alike = alike_more one other at (at + 128) (omega arith) v.alike same;
    }
