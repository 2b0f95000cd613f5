use Rattle.std.proofs.Common.{◌≡◌, ◌≤◌, ◌∙◌, ◌++◌, List, ℤ, length, take, ap, sym, arith}
use Rattle.std.proofs.lemmas.List.{take-append-le, take-take, length-take-le}
use Rattle.tune_incipit.specs.Incipits.{counting_pitches, differences, incipit_of}
use Rattle.tune_incipit.proofs.incipits.opening_steps.Goals as goal

pub returns-then-taken-count : goal.returns-then-taken-count
unfolding incipit_of
returns-then-taken-count c =
    let count = c.args.count in
    let row = c.take_plain-taken.new.pitches in
    let taken = c.take_plain-taken.result in
    let is : taken ≡ count = c.if-taken-count.true in
    let within : taken ≤ length row = omega (arith, c.take_plain-taken.ensures.few, c.requires.many, c.take_plain-taken.auto.pitches) in
    let later : List ℤ = counting_pitches c.take_plain-taken.new.self in
    let all : counting_pitches c.of_tune-opening.result ≡ take taken row ++ later = c.take_plain-taken.ensures.notes in
    c.between.ensures
    ∙ ap (λ n. differences (take n row)) is
    ∙ ap differences
    (sym (take-take count taken row (omega (arith, is)))
    ∙ sym (take-append-le count (take taken row) later (omega (arith, is, length-take-le taken row within)))
    ∙ ap (take count) (sym all ∙ ap counting_pitches c.of_tune-opening.ensures))

pub returns : goal.returns
unfolding incipit_of
returns c =
    c.steps_with_rest.ensures
    ∙ ap (λ p. differences (take c.args.count p)) (sym c.take_plain-taken.ensures.notes ∙ ap counting_pitches c.of_tune-opening.ensures)
