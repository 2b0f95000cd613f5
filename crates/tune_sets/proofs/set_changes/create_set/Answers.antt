use Rattle.std.proofs.Common.{◌≡◌, refl, ap, ◌∙◌, inl, inr, arith, length, false, true, leb, Ok, Err, []}
use Rattle.std.proofs.lemmas.Bool.{le-leb, lt-leb}
use Rattle.std.proofs.lemmas.Result.{err_from_is_err_and}
use Rattle.tune_sets.specs.Limits.{most_sets}
use Rattle.tune_sets.specs.Names.{is_good_name}
use Rattle.tune_sets.specs.Sets.{empty_set}
use Rattle.tune_sets.proofs.SearchLemmas.{set_at-index, missing_set, inserted-index}
use Rattle.tune_sets.proofs.ChangeLemmas.{created_are}
use Rattle.tune_sets.proofs.set_changes.create_set.Goals as goal

pub returns-in_default-index_of-clause-gives : goal.returns-in_default-index_of-clause-gives
returns-in_default-index_of-clause-gives c =
    let sets = c.args.sets.now.items in
    let good : is_good_name c.args.name.now ≡ true = c.in-Some.ensures.good.0 refl in
    let found = rw c.deref.ensures.value at c.in_default-index_of.ensures.found in
    let set = empty_set c.args.name.now in
    inr (rw (good, set_at-index [] c.args.name.now sets _ set c.requires.rises found.within (found.named set)) refl)

pub returns-then-len-ge-MOST_SETS-clause-gives : goal.returns-then-len-ge-MOST_SETS-clause-gives
returns-then-len-ge-MOST_SETS-clause-gives c =
    let sets = c.args.sets.now.items in
    let good : is_good_name c.args.name.now ≡ true = c.in-Some.ensures.good.0 refl in
    let missing = rw c.deref.ensures.value at c.in-Err.ensures.missing in
    let full : leb most_sets (length sets) ≡ true = le-leb most_sets (length sets) (omega (arith, c.len.ensures, c.args.sets.now.ok.0)) in
    inr (rw (good, missing_set c.args.name.now _ sets missing, full) refl)

pub returns-in_err-insert-clause-gives : goal.returns-in_err-insert-clause-gives
returns-in_err-insert-clause-gives c =
    let sets = c.args.sets.now.items in
    let good : is_good_name c.args.name.now ≡ true = c.in-Some.ensures.good.0 refl in
    let missing = rw c.deref.ensures.value at c.in-Err.ensures.missing in
    let room : leb most_sets (length sets) ≡ false = lt-leb most_sets (length sets) (omega (arith, c.len.ensures, c.args.sets.now.ok.0)) in
    let fault = err_from_is_err_and c.from_residual.result c.from_residual.ensures.1 in
    inl (
      fault.1 ∙ ap (λ e. Err e) fault.2,
      c.in_err-insert.ensures.items,
      rw (good, missing_set c.args.name.now _ sets missing, room) refl,
    )

pub returns-clause-limits : goal.returns-clause-limits
returns-clause-limits c =
    let sets = c.args.sets.now.items in
    let good : is_good_name c.args.name.now ≡ true = c.in-Some.ensures.good.0 refl in
    let missing = rw c.deref.ensures.value at c.in-Err.ensures.missing in
    rw (c.in_ok-insert.ensures.items, c.in-Some.ensures.value, c.new-2.ensures)
    (created_are c.args.name.now sets c.in-Err.index c.requires missing good (omega (arith, c.len.ensures, c.args.sets.now.ok.0)))

pub returns-clause-gives : goal.returns-clause-gives
returns-clause-gives c =
    let sets = c.args.sets.now.items in
    let good : is_good_name c.args.name.now ≡ true = c.in-Some.ensures.good.0 refl in
    let missing = rw c.deref.ensures.value at c.in-Err.ensures.missing in
    let room : leb most_sets (length sets) ≡ false = lt-leb most_sets (length sets) (omega (arith, c.len.ensures, c.args.sets.now.ok.0)) in
    inr (rw (good, missing_set c.args.name.now _ sets missing, room, c.in_ok-insert.ensures.items, c.in-Some.ensures.value, c.new-2.ensures)
    (ap (λ s. (s, Ok tt)) (inserted-index (empty_set c.args.name.now) sets c.in-Err.index missing.within missing.lesser missing.greater)))
