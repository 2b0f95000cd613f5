use Rattle.std.proofs.Common.{◌≡◌, ◌+◌, ◌<◌, ◌∙◌, ◌++◌, ◌∷◌, [], length, take, get_or, ℤ, pos, ◌-ℤ◌}
use Rattle.std.proofs.Common.{w8, w32, FitsSigned, to_z, of_z, ap, sym, refl, arith, inl, inr}
use Rattle.std.proofs.Math.Facts.{to_z-of_z}
use Rattle.std.proofs.lemmas.Bool.{cases_lt}
use Rattle.std.proofs.lemmas.Int.{ints}
use Rattle.std.proofs.lemmas.List.{take_more_set, length-take-le}
use Rattle.tune_incipit.specs.Incipits.{differences}
use Rattle.tune_incipit.proofs.Growing.{differences_few, differences_more}
use Rattle.tune_incipit.proofs.StepRows.{length-row, padded_more}
use Rattle.tune_incipit.proofs.step_lists.Steps.between.Goals as goal

pub loop-place-init : goal.loop-place-init
loop-place-init c = record {
  padded = record { steps = refl; zeros = refl };
  steps = sym (differences_few (take 1 c.args.pitches.now) (omega (arith, length-take-le 1 c.args.pitches.now (omega (arith, c.told-pitches)))));
}

pub loop-place-preserved : goal.loop-place-preserved
loop-place-preserved c =
    let row = c.args.pitches.now in
    let place = c.loop-place.place in
    let items = c.loop-place.items in
    let a : ℤ = get_or row (place + 1) (pos 0) in
    let b : ℤ = get_or row place (pos 0) in
    let next : place + 1 < c.args.notes = omega (arith, c.loop-place-test.true, c.saturating_sub-count.ensures) in
    let fits_a : FitsSigned w8 a = c.requires.fit (place + 1) (pos 0) (omega arith) next in
    let fits_b : FitsSigned w8 b = c.requires.fit place (pos 0) (omega arith) (omega (arith, next)) in
    let is_a : c.from.result ≡ a = c.from.ensures ∙ to_z-of_z fits_a in
    let is_b : c.from-in-loop-place.result ≡ b = c.from-in-loop-place.ensures ∙ to_z-of_z fits_b in
    let wide_a : FitsSigned w32 a = grind (arith, ints) in
    let wide_b : FitsSigned w32 b = grind (arith, ints) in
    let wide : FitsSigned w32 (a -ℤ b) = grind (arith, ints) in
    let put : ℤ = to_z w32 (of_z w32 (to_z w32 (of_z w32 c.from.result) -ℤ to_z w32 (of_z w32 c.from-in-loop-place.result))) in
    let is : put ≡ a -ℤ b =
    (λ i. to_z w32 (of_z w32 (to_z w32 (of_z w32 (is_a i)) -ℤ to_z w32 (of_z w32 (is_b i)))))
    ∙ (λ i. to_z w32 (of_z w32 (to_z-of_z wide_a i -ℤ to_z-of_z wide_b i)))
    ∙ to_z-of_z wide in
    let few : place < 11 = omega (arith, next, c.requires.few) in
    let room : place < length items = omega (arith, few, length-row place items (omega (arith, few)) c.loop-place.invariant.padded) in
    record {
      padded = padded_more place items put few c.loop-place.invariant.padded;
      steps =
          take_more_set items place put room
          ∙ (λ i. c.loop-place.invariant.steps i ++ is i ∷ [])
          ∙ sym (differences_more row place (omega (arith, next, c.requires.few, c.told-pitches)));
    }

pub returns : goal.returns
returns c =
    let row = c.args.pitches.now in
    let end : c.loop-place.place ≡ c.saturating_sub-count.result = omega (arith, c.loop-place.auto.place-end, c.loop-place-test.false) in
    ap (λ n. take n c.loop-place.items) (sym end) ∙ c.loop-place.invariant.steps
    ∙ elim (cases_lt 0 c.args.notes) [
      | inl some ↦ ap (λ n. differences (take n row)) (omega (arith, end, some, c.saturating_sub-count.ensures))
      | inr none ↦
          differences_few (take (c.loop-place.place + 1) row)
          (omega (
            arith,
            length-take-le (c.loop-place.place + 1) row (omega (arith, c.told-pitches, end, none, c.saturating_sub-count.ensures)),
            end,
            none,
            c.saturating_sub-count.ensures,
          ))
          ∙ sym (differences_few (take c.args.notes row) (omega (arith, length-take-le c.args.notes row (omega (arith, c.told-pitches, none)), none)))
    ]
