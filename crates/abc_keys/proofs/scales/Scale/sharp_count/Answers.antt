use Rattle.std.proofs.Common.{arith, inl, inr}
use Rattle.std.proofs.lemmas.Int.{ints}
use Rattle.abc_keys.proofs.FifthBounds.{has_count, has_no_count, tonic_fifths_small, sign_fifths_small, mode_fifths_small}
use Rattle.abc_keys.proofs.scales.Scale.sharp_count.Goals as goal
use Rattle.abc_keys.proofs.scales.Scale.sharp_count.Goals.{else-count-geminus7-via-then-count-geminus7+else-count-le7}
use Rattle.abc_keys.proofs.scales.Scale.sharp_count.Goals.{else-count-geminus7-via-else-count-geminus7}

pub returns-then-count-le7-clause-value : goal.returns-then-count-le7-clause-value
returns-then-count-le7-clause-value c =
    let t = tonic_fifths_small c.args.self.tonic in
    let g = sign_fifths_small c.args.self.sign in
    let m = mode_fifths_small c.args.self.mode in
    has_count c.args.self _ (omega (arith, ints)) (omega (arith, ints)) (omega (arith, ints))

pub returns-else-count-geminus7-clause-value : goal.returns-else-count-geminus7-clause-value
returns-else-count-geminus7-clause-value c =
    let t = tonic_fifths_small c.args.self.tonic in
    let g = sign_fifths_small c.args.self.sign in
    let m = mode_fifths_small c.args.self.mode in
    elim c.else-count-geminus7.branch [
      | else-count-geminus7-via-then-count-geminus7+else-count-le7 w ↦ has_no_count c.args.self (inr (omega (arith, ints)))
      | else-count-geminus7-via-else-count-geminus7 w ↦ has_no_count c.args.self (inl (omega (arith, ints)))
    ]
