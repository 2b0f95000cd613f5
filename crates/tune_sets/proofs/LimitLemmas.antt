-- Each call keeps the limits, as its definition goes.
use Rattle.std.proofs.Common.{◌≡◌, ℕ, ◌+◌, ◌-◌, ◌^◌, ◌<◌, ◌≤◌, Bool, true, false, leb, List, [], ◌∷◌, ◌++◌, length, Option, Some, None, refl, ap, sym, ◌∙◌}
use Rattle.std.proofs.Common.{subst, arith, length-append, inl, inr}
use Rattle.std.specs.List.{AllByRecursion, remove}
use Rattle.std.specs.Cmp.Lexicographic.{slice_cmp}
use Rattle.std.specs.Ordering.{nat_cmp, is_lt, is_eq, ordering_reverse}
use Rattle.std.specs.declared.cmp.Ordering.{Ordering}
use Rattle.std.specs.declared.cmp.Ordering.TheVariants.{Less, Equal, Greater}
use Rattle.std.specs.Str.{bytes_eq}
use Rattle.std.proofs.lemmas.Bool.{cases_Bool, leb-false}
use Rattle.std.proofs.lemmas.Cmp.{nat_list_cmp_total}
use Rattle.std.proofs.lemmas.Map.Text.{is_eq-slice_cmp}
use Rattle.tune_sets.specs.Limits.{most_places, most_sets}
use Rattle.tune_sets.specs.Names.{is_good_name, is_before}
use Rattle.tune_sets.specs.Numbers.{has_place}
use Rattle.tune_sets.specs.Sets.{IsTuneSet, NamesRiseFrom, AreSetLists, set_at, set_inserted, empty_set, with_numbers, without_set}
use Rattle.tune_sets.specs.Calls.{create_unless, create_set, add_to, add_number, cut_from, cut_place, drop_found, drop_set}
use Rattle.tune_sets.specs.declared.set_lists.TuneSet.{TuneSet}
use Rattle.tune_sets.proofs.NameOrder.{good_after}
use Rattle.tune_sets.proofs.ChangeLemmas.{Narrow, narrow-push, narrow-remove, length-remove_number, rises-below}

-- NAMES
-- of two names one stands before the other, or they are one
pub after : (name other : List ℕ) → is_before name other ≡ false → bytes_eq other name ≡ false → is_before other name ≡ true
after name other nay differs =
    let apart : is_eq (slice_cmp nat_cmp other name) ≡ false = is_eq-slice_cmp other name ∙ differs in
    before_by (slice_cmp nat_cmp other name) refl apart
  where
    before_by : (o : Ordering) → slice_cmp nat_cmp other name ≡ o → is_eq (slice_cmp nat_cmp other name) ≡ false → is_before other name ≡ true
    before_by Less is apart = ap is_lt is
    before_by Equal is apart = let e = rw is at apart in cc
    before_by Greater is apart =
        let less : is_before name other ≡ true = ap is_lt (nat_list_cmp_total.antisymm name other ∙ ap ordering_reverse is) in
        let e : true ≡ false = sym less ∙ nay in
        cc

-- A SET WITH OTHER NUMBERS
rises-with_numbers : (low name numbers : List ℕ) (sets : List TuneSet) → NamesRiseFrom low sets → NamesRiseFrom low (with_numbers name numbers sets)
rises-with_numbers low name numbers [] rises = tt
rises-with_numbers low name numbers (set ∷ sets) rises = elim (cases_Bool (bytes_eq set.name name)) [
  | inl same ↦ rw same (rises.0, rises.1)
  | inr other ↦ rw other (rises.0, rises-with_numbers set.name name numbers sets rises.1)
]

each-with_numbers : (name numbers : List ℕ) (sets : List TuneSet) → AllByRecursion IsTuneSet sets → length numbers ≤ most_places → Narrow numbers
    → AllByRecursion IsTuneSet (with_numbers name numbers sets)
each-with_numbers name numbers [] each few narrow = tt
each-with_numbers name numbers (set ∷ sets) each few narrow = elim (cases_Bool (bytes_eq set.name name)) [
  | inl same ↦ rw same (record { name = each.0.name; places = few; numbers = narrow }, each.1)
  | inr other ↦ rw other (each.0, each-with_numbers name numbers sets each.1 few narrow)
]

length-with_numbers : (name numbers : List ℕ) (sets : List TuneSet) → length (with_numbers name numbers sets) ≡ length sets
length-with_numbers name numbers [] = refl
length-with_numbers name numbers (set ∷ sets) = elim (cases_Bool (bytes_eq set.name name)) [
  | inl same ↦ rw same refl
  | inr other ↦ rw other (omega (arith, length-with_numbers name numbers sets))
]

with_numbers_are : (name numbers : List ℕ) (sets : List TuneSet) → AreSetLists sets → length numbers ≤ most_places → Narrow numbers
    → AreSetLists (with_numbers name numbers sets)
with_numbers_are name numbers sets are few narrow = record {
  rises = rises-with_numbers [] name numbers sets are.rises;
  each = each-with_numbers name numbers sets are.each few narrow;
  count = omega (arith, length-with_numbers name numbers sets, are.count);
}

-- A SET MORE
rises-inserted : (low : List ℕ) (new : TuneSet) (sets : List TuneSet) → NamesRiseFrom low sets → is_before low new.name ≡ true → set_at new.name sets ≡ None
    → NamesRiseFrom low (set_inserted new sets)
rises-inserted low new [] rises before none = (before, tt)
rises-inserted low new (set ∷ sets) rises before none = elim (cases_Bool (is_before new.name set.name)) [
  | inl lesser ↦ rw lesser (before, (lesser, rises.1))
  | inr not_lesser ↦ elim (cases_Bool (bytes_eq set.name new.name)) [
    | inl same ↦ let e = rw same at none in cc
    | inr other ↦ let later = rw other at none in
        rw not_lesser (rises.0, rises-inserted set.name new sets rises.1 (after new.name set.name not_lesser other) later)
  ]
]

each-inserted : (new : TuneSet) (sets : List TuneSet) → AllByRecursion IsTuneSet sets → IsTuneSet new → AllByRecursion IsTuneSet (set_inserted new sets)
each-inserted new [] each is = (is, tt)
each-inserted new (set ∷ sets) each is = elim (cases_Bool (is_before new.name set.name)) [
  | inl lesser ↦ rw lesser (is, each)
  | inr not_lesser ↦ rw not_lesser (each.0, each-inserted new sets each.1 is)
]

length-inserted : (new : TuneSet) (sets : List TuneSet) → length (set_inserted new sets) ≡ length sets + 1
length-inserted new [] = refl
length-inserted new (set ∷ sets) = elim (cases_Bool (is_before new.name set.name)) [
  | inl lesser ↦ rw lesser (omega arith)
  | inr not_lesser ↦ rw not_lesser (omega (arith, length-inserted new sets))
]

inserted_are : (name : List ℕ) (sets : List TuneSet) → AreSetLists sets → is_good_name name ≡ true → set_at name sets ≡ None → length sets < most_sets
    → AreSetLists (set_inserted (empty_set name) sets)
inserted_are name sets are good none room =
    let is : IsTuneSet (empty_set name) = record { name = good; places = omega arith; numbers = tt } in
    record {
      rises = rises-inserted [] (empty_set name) sets are.rises (good_after name good) none;
      each = each-inserted (empty_set name) sets are.each is;
      count = omega (arith, length-inserted (empty_set name) sets, room);
    }

-- A SET LESS
rises-without : (low name : List ℕ) (sets : List TuneSet) → NamesRiseFrom low sets → NamesRiseFrom low (without_set name sets)
rises-without low name [] rises = tt
rises-without low name (set ∷ sets) rises = elim (cases_Bool (bytes_eq set.name name)) [
  | inl same ↦ rw same (rises-below low set.name sets rises.0 rises.1)
  | inr other ↦ rw other (rises.0, rises-without set.name name sets rises.1)
]

each-without : (name : List ℕ) (sets : List TuneSet) → AllByRecursion IsTuneSet sets → AllByRecursion IsTuneSet (without_set name sets)
each-without name [] each = tt
each-without name (set ∷ sets) each = elim (cases_Bool (bytes_eq set.name name)) [
  | inl same ↦ rw same each.1
  | inr other ↦ rw other (each.0, each-without name sets each.1)
]

length-without : (name : List ℕ) (sets : List TuneSet) → length (without_set name sets) ≤ length sets
length-without name [] = omega arith
length-without name (set ∷ sets) = elim (cases_Bool (bytes_eq set.name name)) [
  | inl same ↦ rw same (omega arith)
  | inr other ↦ rw other (omega (arith, length-without name sets))
]

without_are : (name : List ℕ) (sets : List TuneSet) → AreSetLists sets → AreSetLists (without_set name sets)
without_are name sets are = record {
  rises = rises-without [] name sets are.rises;
  each = each-without name sets are.each;
  count = omega (arith, length-without name sets, are.count);
}

-- THE SET THAT A NAME FINDS
is_set_at : (name : List ℕ) (sets : List TuneSet) (set : TuneSet) → AllByRecursion IsTuneSet sets → set_at name sets ≡ Some set → IsTuneSet set
is_set_at name [] set each found = cc
is_set_at name (first ∷ sets) set each found = elim (cases_Bool (bytes_eq first.name name)) [
  | inl same ↦ let is = rw same at found in let e : first ≡ set = cc in subst IsTuneSet e each.0
  | inr other ↦ let later = rw other at found in is_set_at name sets set each.1 later
]

-- THE CALLS
create_within : (name : List ℕ) (sets : List TuneSet) (found : Option TuneSet) (full : Bool) → AreSetLists sets → is_good_name name ≡ true
    → set_at name sets ≡ found → leb most_sets (length sets) ≡ full → AreSetLists (create_unless name sets found).0
create_within name sets (Some set) full are good is size = are
create_within name sets None true are good is size = rw size are
create_within name sets None false are good is size = rw size (inserted_are name sets are good is (leb-false most_sets (length sets) size))

pub create_keeps : (name : List ℕ) (sets : List TuneSet) → AreSetLists sets → AreSetLists (create_set name sets).0
create_keeps name sets are = elim (cases_Bool (is_good_name name)) [
  | inl good ↦ rw good (create_within name sets (set_at name sets) _ are good refl refl)
  | inr bad ↦ rw bad are
]

add_within : (name : List ℕ) (number : ℕ) (sets : List TuneSet) (found : Option TuneSet) → AreSetLists sets → number < 2 ^ 32 → set_at name sets ≡ found
    → AreSetLists (add_to name number sets found).0
add_within name number sets None are small is = are
add_within name number sets (Some set) are small is = elim (cases_Bool (leb most_places (length set.numbers))) [
  | inl full ↦ rw full are
  | inr room ↦
      let few = leb-false most_places (length set.numbers) room in
      let old = is_set_at name sets set are.each is in
      rw room (with_numbers_are name (set.numbers ++ number ∷ []) sets are (omega (arith, length-append set.numbers (number ∷ []), few))
      (narrow-push set.numbers number old.numbers small))
]

pub add_keeps : (name : List ℕ) (number : ℕ) (sets : List TuneSet) → AreSetLists sets → number < 2 ^ 32 → AreSetLists (add_number name number sets).0
add_keeps name number sets are small = add_within name number sets (set_at name sets) are small refl

cut_within : (name : List ℕ) (place : ℕ) (sets : List TuneSet) (found : Option TuneSet) → AreSetLists sets → set_at name sets ≡ found
    → AreSetLists (cut_from name place sets found).0
cut_within name place sets None are is = are
cut_within name place sets (Some set) are is = elim (cases_Bool (has_place place set.numbers)) [
  | inl there ↦
      let old = is_set_at name sets set are.each is in
      rw there (with_numbers_are name (remove set.numbers (place - 1)) sets are (omega (arith, length-remove_number set.numbers (place - 1), old.places))
      (narrow-remove set.numbers (place - 1) old.numbers))
  | inr nay ↦ rw nay are
]

pub cut_keeps : (name : List ℕ) (place : ℕ) (sets : List TuneSet) → AreSetLists sets → AreSetLists (cut_place name place sets).0
cut_keeps name place sets are = cut_within name place sets (set_at name sets) are refl

drop_within : (name : List ℕ) (sets : List TuneSet) (found : Option TuneSet) → AreSetLists sets → AreSetLists (drop_found name sets found).0
drop_within name sets None are = are
drop_within name sets (Some set) are = without_are name sets are

pub drop_keeps : (name : List ℕ) (sets : List TuneSet) → AreSetLists sets → AreSetLists (drop_set name sets).0
drop_keeps name sets are = drop_within name sets (set_at name sets) are
