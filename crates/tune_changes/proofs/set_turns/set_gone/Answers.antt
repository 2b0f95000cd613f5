use Rattle.std.proofs.Common.{◌≡◌, Option, List, ℕ, Some, refl, sym, ap, ◌∙◌, subst, inl, inr, rules}
use Rattle.tune_changes.specs.Inside.TurnPlans.{numbers_of_set}
use Rattle.tune_changes.proofs.PlanLemmas.{found_at, gone_set}
use Rattle.tune_changes.proofs.set_turns.set_gone.Goals as goal

pub returns : goal.returns
returns c =
    let name = c.args.name.now in
    let found = found_at name name _ c.args.sets.now c.in-Some.set.now refl c.as_slice.ensures.value c.in-Some.ensures in
    gone_set name c.in-Some.set.now.name (numbers_of_set name c.args.sets.now) c.as_slice-2.result.now c.in_ok-list_of.field-0
    (found.0 ∙ ap Some (sym c.as_slice-2.ensures)) found.1 c.in_ok-list_of.ensures
