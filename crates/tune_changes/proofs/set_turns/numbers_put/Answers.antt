use Rattle.std.proofs.Common.{◌≡◌, Option, List, ℕ, Some, refl, sym, ap, ◌∙◌, subst, inl, inr, rules}
use Rattle.tune_changes.specs.Inside.TurnPlans.{numbers_of_set}
use Rattle.tune_asking.specs.Asking.{IsToldOrFault}
use Rattle.tune_changes.specs.Planning.{numbers_put}
use Rattle.tune_changes.proofs.PlanLemmas.{found_at}
use Rattle.tune_changes.proofs.set_turns.numbers_put.Goals as goal

pub returns-in-Some : goal.returns-in-Some
returns-in-Some c =
    let name = c.args.name in
    let found = found_at _ name _ c.args.sets.now c.in-Some.set.now c.as_slice-2.ensures.value c.as_slice.ensures.value c.in-Some.ensures in
    subst (λ (there : Option (List ℕ)). IsToldOrFault (numbers_put name c.args.numbers.now c.args.sets.now there) c.numbers_added.result)
    (sym (found.0 ∙ ap Some (sym c.as_slice-in-Some.ensures))) (c.numbers_added.ensures c.args.sets.now)
