use Rattle.std.proofs.Common.{◌≡◌, ◌+◌, refl, ap, sym, ◌∙◌, inl, inr, arith, length, length-append, false, true, leb, Ok, Err, [], ◌∷◌, ◌++◌}
use Rattle.std.proofs.lemmas.Bool.{le-leb, lt-leb}
use Rattle.std.proofs.lemmas.Result.{err_from_is_err_and}
use Rattle.tune_sets.specs.Limits.{most_places}
use Rattle.tune_sets.specs.declared.faults.SetFault.TheVariants.{SetFull}
use Rattle.tune_sets.proofs.SearchLemmas.{found_set, missing_set, set_unchanged}
use Rattle.tune_sets.proofs.ChangeLemmas.{set_changed, added_are}
use Rattle.tune_sets.proofs.set_changes.add_number.Goals as goal

pub returns-in_default-clause-gives : goal.returns-in_default-clause-gives
returns-in_default-clause-gives c =
    let missing = rw c.deref.ensures.value at c.in_default.ensures.missing in
    inr (rw (missing_set c.args.name.now _ c.args.sets.now.items missing) refl)

pub returns-then-len-ge-MOST_PLACES-clause-gives : goal.returns-then-len-ge-MOST_PLACES-clause-gives
returns-then-len-ge-MOST_PLACES-clause-gives c =
    let sets = c.args.sets.now.items in
    let set = c.index_mut-set.result.now in
    let found = rw c.deref.ensures.value at c.in-Ok.ensures.found in
    let there = found_set c.args.name.now c.in-Ok.index sets set c.requires.rises found c.index_mut-set.ensures.value in
    let full : leb most_places (length set.numbers) ≡ true = le-leb most_places (length set.numbers) (omega (arith, c.len.ensures)) in
    inr (rw (there, full) (ap (λ s. (s, Err SetFull)) (sym (set_unchanged sets c.in-Ok.index set found.within c.index_mut-set.ensures.value))))

pub returns-in_err-push-clause-gives : goal.returns-in_err-push-clause-gives
returns-in_err-push-clause-gives c =
    let sets = c.args.sets.now.items in
    let set = c.index_mut-set.result.now in
    let found = rw c.deref.ensures.value at c.in-Ok.ensures.found in
    let there = found_set c.args.name.now c.in-Ok.index sets set c.requires.rises found c.index_mut-set.ensures.value in
    let room : leb most_places (length set.numbers) ≡ false = lt-leb most_places (length set.numbers) (omega (arith, c.len.ensures)) in
    let fault = err_from_is_err_and c.from_residual.result c.from_residual.ensures.1 in
    inl (
      fault.1 ∙ ap (λ e. Err e) fault.2,
      rw c.in_err-push.ensures.err (set_unchanged sets c.in-Ok.index set found.within c.index_mut-set.ensures.value),
      rw (there, room) refl,
    )

pub returns-clause-limits : goal.returns-clause-limits
returns-clause-limits c =
    let sets = c.args.sets.now.items in
    let set = c.index_mut-set.result.now in
    let found = rw c.deref.ensures.value at c.in-Ok.ensures.found in
    rw c.in_ok-push.ensures.ok (added_are c.args.number sets c.in-Ok.index set c.requires found.within c.index_mut-set.ensures.value
    (omega (arith, c.len.ensures)) (omega (arith, c.ranges.number)))

pub returns-clause-gives : goal.returns-clause-gives
returns-clause-gives c =
    let sets = c.args.sets.now.items in
    let set = c.index_mut-set.result.now in
    let found = rw c.deref.ensures.value at c.in-Ok.ensures.found in
    let there = found_set c.args.name.now c.in-Ok.index sets set c.requires.rises found c.index_mut-set.ensures.value in
    let room : leb most_places (length set.numbers) ≡ false = lt-leb most_places (length set.numbers) (omega (arith, c.len.ensures)) in
    let numbers = set.numbers ++ c.args.number ∷ [] in
    let count : length set.numbers + 1 ≡ c.len-2.result =
    omega (arith, length-append set.numbers (c.args.number ∷ []), ap length c.in_ok-push.ensures.ok, c.len-2.ensures) in
    inr (rw (there, room, c.in_ok-push.ensures.ok)
    (λ i. (set_changed c.args.name.now numbers sets c.in-Ok.index set c.requires found c.index_mut-set.ensures.value i, Ok (count i))))
