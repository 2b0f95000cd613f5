use Rattle.std.proofs.Common.{◌≡◌, ◌-◌, refl, ap, sym, ◌∙◌, false, true, Ok, Err}
use Rattle.std.specs.List.{remove}
use Rattle.tune_sets.specs.Numbers.{has_place}
use Rattle.tune_sets.specs.declared.faults.SetFault.TheVariants.{NoSuchPlace}
use Rattle.tune_sets.proofs.SearchLemmas.{found_set, missing_set, set_unchanged}
use Rattle.tune_sets.proofs.ChangeLemmas.{set_changed, cut_are}
use Rattle.tune_sets.proofs.set_changes.cut_place.Goals as goal

pub returns-in_default-clause-gives : goal.returns-in_default-clause-gives
returns-in_default-clause-gives c =
    let missing = rw c.deref.ensures.value at c.in_default.ensures.missing in
    rw (missing_set c.args.name.now _ c.args.sets.now.items missing) refl

pub returns-then-not-has_place-clause-gives : goal.returns-then-not-has_place-clause-gives
returns-then-not-has_place-clause-gives c =
    let sets = c.args.sets.now.items in
    let set = c.index_mut-set.result.now in
    let found = rw c.deref.ensures.value at c.in-Ok.ensures.found in
    let there = found_set c.args.name.now c.in-Ok.index sets set c.requires.rises found c.index_mut-set.ensures.value in
    let no : has_place c.args.place set.numbers ≡ false = sym c.has_place.ensures ∙ c.if-not-has_place.true in
    rw (there, no) (ap (λ s. (s, Err NoSuchPlace)) (sym (set_unchanged sets c.in-Ok.index set found.within c.index_mut-set.ensures.value)))

pub returns-clause-limits : goal.returns-clause-limits
returns-clause-limits c =
    let sets = c.args.sets.now.items in
    let found = rw c.deref.ensures.value at c.in-Ok.ensures.found in
    rw c.remove_place.ensures (cut_are (c.args.place - 1) sets c.in-Ok.index c.index_mut-set.result.now c.requires found.within c.index_mut-set.ensures.value)

pub returns-clause-gives : goal.returns-clause-gives
returns-clause-gives c =
    let sets = c.args.sets.now.items in
    let set = c.index_mut-set.result.now in
    let found = rw c.deref.ensures.value at c.in-Ok.ensures.found in
    let there = found_set c.args.name.now c.in-Ok.index sets set c.requires.rises found c.index_mut-set.ensures.value in
    let yes : has_place c.args.place set.numbers ≡ true = sym c.has_place.ensures ∙ c.if-not-has_place.false in
    rw (there, yes, c.remove_place.ensures)
    (ap (λ s. (s, Ok tt))
    (set_changed c.args.name.now (remove set.numbers (c.args.place - 1)) sets c.in-Ok.index set c.requires found c.index_mut-set.ensures.value))
