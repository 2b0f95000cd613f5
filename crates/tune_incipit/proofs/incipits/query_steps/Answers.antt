use Rattle.std.proofs.Common.{◌<◌, length, arith, ap, ◌∙◌, refl, ⊎_elim}
use Rattle.std.proofs.lemmas.Bool.{cases_lt}
use Rattle.tune_incipit.specs.Incipits.{incipit_of, query_notes}
use Rattle.tune_incipit.proofs.IncipitLaws.{length-steps}
use Rattle.tune_incipit.proofs.incipits.query_steps.Goals as goal

pub returns-in-Some-clause-ok : goal.returns-in-Some-clause-ok
returns-in-Some-clause-ok c =
    let are = c.first_steps.ensures ∙ ap (incipit_of c.args.notes) c.query_notes.ensures in
    let long = length-steps c.args.notes (query_notes c.args.query.now) c.first_steps.result are in
    let some : 0 < length c.first_steps.result = c.in-Some.ensures.some.0 refl in
    (λ ok. omega arith, λ enough. refl)

pub returns-in-Some-clause-bad : goal.returns-in-Some-clause-bad
returns-in-Some-clause-bad c =
    let are = c.first_steps.ensures ∙ ap (incipit_of c.args.notes) c.query_notes.ensures in
    let long = length-steps c.args.notes (query_notes c.args.query.now) c.first_steps.result are in
    let some : 0 < length c.first_steps.result = c.in-Some.ensures.some.0 refl in
    (λ no. absurd (cc), λ few. absurd (omega arith))

pub returns-in-None-clause-ok : goal.returns-in-None-clause-ok
returns-in-None-clause-ok c =
    let are = c.first_steps.ensures ∙ ap (incipit_of c.args.notes) c.query_notes.ensures in
    let long = length-steps c.args.notes (query_notes c.args.query.now) c.first_steps.result are in
    let none = c.in-None.ensures.some.1 in
    (λ no. absurd (cc), λ enough. none (omega arith))

pub returns-in-None-clause-bad : goal.returns-in-None-clause-bad
returns-in-None-clause-bad c =
    let are = c.first_steps.ensures ∙ ap (incipit_of c.args.notes) c.query_notes.ensures in
    let long = length-steps c.args.notes (query_notes c.args.query.now) c.first_steps.result are in
    let none : 0 < length c.first_steps.result → ⊥ = λ some. let is = c.in-None.ensures.some.1 some in absurd (cc) in
    (λ err. ⊎_elim (λ some. absurd (none some)) (λ zero. omega arith) (cases_lt 0 (length c.first_steps.result)), λ few. refl)
