use Rattle.std.proofs.Common.{◌≡◌, ◌-◌, ◌<◌, ◌≤◌, ◌∙◌, ◌++◌, [], ℤ, length, take, get_or, pos, option_map, Some, ap, sym, arith, w8, FitsSigned}
use Rattle.std.proofs.Math.Facts.{to_z-of_z}
use Rattle.std.proofs.lemmas.List.{length-take-le}
use Rattle.tune_incipit.specs.Incipits.{counting_pitches, differences}
use Rattle.tune_incipit.specs.Inside.NextSteps.{all_steps}
use Rattle.tune_incipit.proofs.Growing.{differences_few, steps_of_taken, steps_of_none}
use Rattle.tune_incipit.proofs.IncipitLaws.{length-differences}
use Rattle.tune_incipit.proofs.incipits.steps_of_rest.Goals as goal
use Rattle.tune_incipit.proofs.incipits.steps_of_rest.Goals.{then-taken-eq0, else-taken-eq0}

pub steps_with-requires-clause-room : goal.steps_with-requires-clause-room
steps_with-requires-clause-room c =
    let row = c.args.pitches.now in
    let within : c.args.taken ≤ length row = omega (arith, c.told-pitches, c.requires.room, c.requires.many) in
    omega (
      arith,
      ap length c.between.ensures,
      length-differences (take c.args.taken row),
      length-take-le c.args.taken row within,
      c.requires.room,
      c.requires.few,
    )

pub returns : goal.returns
returns c =
    let row = c.args.pitches.now in
    let count = c.args.count in
    let taken = c.args.taken in
    let within : taken ≤ length row = omega (arith, c.told-pitches, c.requires.room, c.requires.many) in
    elim c.if-taken-eq0.branch [
      | then-taken-eq0 w ↦
          let none : take taken row ≡ [] = ap (λ n. take n row) w.if-taken-eq0.true in
          c.steps_with.ensures
          ∙ (λ i. all_steps count (option_map (λ p. p.semitones) (w.last-is i)) (c.between.ensures i) (c.into_notes.ensures i))
          ∙ steps_of_none count (differences (take taken row)) c.args.rest
          (differences_few (take taken row) (omega (arith, length-take-le taken row within, w.if-taken-eq0.true)))
          ∙ ap (λ p. differences (take count (p ++ counting_pitches c.args.rest))) (sym none)
      | else-taken-eq0 w ↦
          let some : 0 < taken = omega (arith, w.if-taken-eq0.false) in
          let before : ℤ = get_or row (taken - 1) (pos 0) in
          let fits : FitsSigned w8 before = c.requires.fit (taken - 1) (pos 0) (omega arith) (omega (arith, some)) in
          let is : w.of_small.result.semitones ≡ before = w.of_small.ensures ∙ to_z-of_z fits in
          c.steps_with.ensures
          ∙ (λ i. all_steps count (option_map (λ p. p.semitones) (w.last-is i)) (c.between.ensures i) (c.into_notes.ensures i))
          ∙ ap (λ l. all_steps count (Some l) (differences (take taken row)) c.args.rest) is
          ∙ steps_of_taken count taken row c.args.rest some c.requires.room within
    ]
