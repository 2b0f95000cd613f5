use Rattle.std.proofs.Common.{◌≡◌, ℕ, true, List, [], ◌∷◌, Ok, subst, inl, inr}
use Rattle.std.specs.List.{AllByRecursion}
use Rattle.std.specs.Str.{bytes_eq}
use Rattle.std.proofs.lemmas.Bool.{cases_Bool}
use Rattle.std.proofs.lemmas.Slice.Eq.{bytes_eq-Decides}
use Rattle.tune_sets.specs.Names.{is_good_name}
use Rattle.tune_sets.specs.Sets.{IsTuneSet}
use Rattle.tune_sets.specs.Calls.{places_of}
use Rattle.tune_sets.specs.declared.set_lists.TuneSet.{TuneSet}
use Rattle.tune_store.proofs.set_plans.held_name.Goals as goal

-- a name that has places is good
found_is_good : (name : List ℕ) (sets : List TuneSet) (numbers : List ℕ) → AllByRecursion IsTuneSet sets → places_of name sets ≡ Ok numbers
    → is_good_name name ≡ true
found_is_good name [] numbers each found = cc
found_is_good name (first ∷ sets) numbers each found = elim (cases_Bool (bytes_eq first.name name)) [
  | inl same ↦ subst (λ (n : List ℕ). is_good_name n ≡ true) ((bytes_eq-Decides first.name name).0 same) each.0.name
  | inr other ↦ let later = rw other at found in found_is_good name sets numbers each.1 later
]

pub returns-in-None-clause-err : goal.returns-in-None-clause-err
returns-in-None-clause-err c =
    let good : is_good_name c.args.name.now ≡ true =
    found_is_good c.args.name.now c.args.sets.now _ c.as_slice-limits.ensures.limits.each c.in_ok-places.ensures.ok in
    let same = c.in-None.ensures.good.1 good in
    cc
