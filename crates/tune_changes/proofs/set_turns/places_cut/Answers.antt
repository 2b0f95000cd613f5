use Rattle.std.proofs.Common.{◌≡◌, Option, List, ℕ, Some, refl, sym, ap, ◌∙◌, subst, inl, inr, rules}
use Rattle.tune_changes.specs.Inside.TurnPlans.{numbers_of_set}
use Rattle.tune_changes.proofs.PlanLemmas.{found_at, cut_set, cut_never}
use Rattle.tune_changes.proofs.set_turns.places_cut.Goals as goal

pub returns-then-not-have_places : goal.returns-then-not-have_places
returns-then-not-have_places c =
    let name = c.args.name.now in
    let found = found_at name name _ c.args.sets.now c.in-Some.set.now refl c.as_slice.ensures.value c.in-Some.ensures in
    inl (cut_never name c.args.places.now (numbers_of_set name c.args.sets.now) c.as_slice-old.result.now (found.0 ∙ ap Some (sym c.as_slice-old.ensures))
    (sym c.have_places.ensures ∙ c.if-not-have_places.true))

pub returns : goal.returns
returns c =
    let name = c.args.name.now in
    let found = found_at name name _ c.args.sets.now c.in-Some.set.now refl c.as_slice.ensures.value c.in-Some.ensures in
    cut_set name c.in-Some.set.now.name c.args.places.now (numbers_of_set name c.args.sets.now) c.as_slice-old.result.now c.in_ok-list_of.field-0
    c.in_ok-without_places.field-0
    (found.0 ∙ ap Some (sym c.as_slice-old.ensures)) found.1 (sym c.have_places.ensures ∙ c.if-not-have_places.false) c.in_ok-list_of.ensures
    c.in_ok-without_places.ensures
