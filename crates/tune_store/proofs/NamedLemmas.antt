-- The places of sets name tunes, after each change.
use Rattle.std.proofs.Common.{◌≡◌, ℕ, ◌-◌, suc, zero, true, false, eqb, leb, List, [], ◌∷◌, ◌++◌, length, take, drop}
use Rattle.std.proofs.Common.{Option, Some, None, refl, ap, sym, ◌∙◌, inl, inr, subst}
use Rattle.std.specs.Prelude.{◌≢◌, IsSome, is_some}
use Rattle.std.specs.List.{remove}
use Rattle.std.specs.Str.{bytes_eq}
use Rattle.std.proofs.lemmas.Bool.{cases_Bool, eqb-true, eqb-false}
use Rattle.tune_sets.specs.Limits.{most_places, most_sets}
use Rattle.tune_sets.specs.Names.{is_good_name, is_before}
use Rattle.tune_sets.specs.Numbers.{is_among, has_place, renumbered, renumbered_all}
use Rattle.tune_sets.specs.Sets.{set_at, holder, set_inserted, empty_set, with_numbers, renumbered_sets, without_set as sets_without}
use Rattle.tune_sets.specs.Calls.{create_unless, create_set, add_to, add_number, cut_from, cut_place, drop_found, drop_set}
use Rattle.tune_sets.specs.declared.set_lists.TuneSet.{TuneSet}
use Rattle.tune_store.specs.State.{tune_at, AreHeld, NameTunes}
use Rattle.tune_store.specs.TuneSteps.{with_tune, without_tune, moved}
use Rattle.tune_store.specs.declared.tune.Tune.{Tune}
use Rattle.tune_store.proofs.PlaceLemmas.{tune_at-append, tune_at-with_tune_same, tune_at-with_tune_other, tune_at-without_other}
use Rattle.tune_store.proofs.MoveLemmas.{tune_at-moved_to, tune_at-moved_other}

-- NUMBERS OF TUNES
-- each number that a tune has, a tune has afterwards
abbrev pub KeepsNumbers : List Tune → List Tune → Type 0
KeepsNumbers old new = (number : ℕ) → IsSome (tune_at number old) → IsSome (tune_at number new)

-- what a number finds now is there, if it was there before and is the same
there_still : {A : Type 0} (old new : Option A) → new ≡ old → IsSome old → IsSome new
there_still old new same was = ap is_some same ∙ was

-- tunes more keep the numbers
pub append_keeps : (tunes more : List Tune) → KeepsNumbers tunes (tunes ++ more)
append_keeps tunes more number was = there_still _ _ (tune_at-append number tunes more was) was

-- so does a tune in the place of the one of its number
pub with_tune_keeps : (new : Tune) (tunes : List Tune) → KeepsNumbers tunes (with_tune new tunes)
with_tune_keeps new tunes number was = elim (cases_Bool (eqb new.number number)) [
  | inl same ↦
      let e = eqb-true new.number number same in
      let P : ℕ → Type 0 = λ n. IsSome (tune_at n tunes) → IsSome (tune_at n (with_tune new tunes)) in
      subst P e (λ its. ap is_some (tune_at-with_tune_same new tunes its)) was
  | inr other ↦ there_still _ _ (tune_at-with_tune_other number new tunes (eqb-false new.number number other)) was
]

held_after : (old new : List Tune) (numbers : List ℕ) → KeepsNumbers old new → AreHeld old numbers → AreHeld new numbers
held_after old new [] keeps held = tt
held_after old new (number ∷ numbers) keeps held = (keeps number held.0, held_after old new numbers keeps held.1)

-- where the numbers are kept, the places of sets name tunes as before
pub named_after : (old new : List Tune) (sets : List TuneSet) → KeepsNumbers old new → NameTunes old sets → NameTunes new sets
named_after old new [] keeps named = tt
named_after old new (set ∷ sets) keeps named = (held_after old new set.numbers keeps named.0, named_after old new sets keeps named.1)

-- A TUNE LESS
held_without : (number : ℕ) (tunes : List Tune) (numbers : List ℕ) → is_among number numbers ≡ false → AreHeld tunes numbers
    → AreHeld (without_tune number tunes) numbers
held_without number tunes [] nay held = tt
held_without number tunes (n ∷ numbers) nay held = elim (cases_Bool (eqb n number)) [
  | inl same ↦ let is = rw same at nay in cc
  | inr other ↦
      let later = rw other at nay in
      let apart : number ≢ n = λ e. eqb-false n number other (sym e) in
      (there_still _ _ (tune_at-without_other n number tunes apart) held.0, held_without number tunes numbers later held.1)
]

-- where no set holds its number, the places of sets name tunes without it
pub named_without : (number : ℕ) (tunes : List Tune) (sets : List TuneSet) → holder number sets ≡ None → NameTunes tunes sets
    → NameTunes (without_tune number tunes) sets
named_without number tunes [] none named = tt
named_without number tunes (set ∷ sets) none named = elim (cases_Bool (is_among number set.numbers)) [
  | inl among ↦ let is = rw among at none in cc
  | inr nay ↦ let later = rw nay at none in (held_without number tunes set.numbers nay named.0, named_without number tunes sets later named.1)
]

-- A TUNE UNDER ANOTHER NUMBER
renumbered_held : (number to n : ℕ) (tunes : List Tune) (tune : Tune) → tune_at number tunes ≡ Some tune → tune_at to tunes ≡ None
    → IsSome (tune_at n tunes) → IsSome (tune_at (renumbered number to n) (moved number to tunes))
renumbered_held number to n tunes tune found free was = elim (cases_Bool (eqb n number)) [
  | inl same ↦ rw same (ap is_some (tune_at-moved_to number to tunes tune found free))
  | inr other ↦
      let apart : number ≢ n = λ e. eqb-false n number other (sym e) in
      let taken : to ≢ n = λ e. let none : false ≡ true = ap is_some (sym (ap (λ m. tune_at m tunes) (sym e) ∙ free)) ∙ was in cc in
      rw other (there_still _ _ (tune_at-moved_other number to n tunes apart taken) was)
]

held_moved : (number to : ℕ) (tunes : List Tune) (tune : Tune) (numbers : List ℕ) → tune_at number tunes ≡ Some tune → tune_at to tunes ≡ None
    → AreHeld tunes numbers → AreHeld (moved number to tunes) (renumbered_all number to numbers)
held_moved number to tunes tune [] found free held = tt
held_moved number to tunes tune (n ∷ numbers) found free held =
    (renumbered_held number to n tunes tune found free held.0, held_moved number to tunes tune numbers found free held.1)

-- where sets get the new number too, their places name tunes
pub named_moved : (number to : ℕ) (tunes : List Tune) (tune : Tune) (sets : List TuneSet) → tune_at number tunes ≡ Some tune → tune_at to tunes ≡ None
    → NameTunes tunes sets → NameTunes (moved number to tunes) (renumbered_sets number to sets)
named_moved number to tunes tune [] found free named = tt
named_moved number to tunes tune (set ∷ sets) found free named =
    (held_moved number to tunes tune set.numbers found free named.0, named_moved number to tunes tune sets found free named.1)

-- SETS CHANGED
-- a set without a place names tunes
named_inserted : (tunes : List Tune) (name : List ℕ) (sets : List TuneSet) → NameTunes tunes sets → NameTunes tunes (set_inserted (empty_set name) sets)
named_inserted tunes name [] named = (tt, tt)
named_inserted tunes name (set ∷ sets) named = elim (cases_Bool (is_before name set.name)) [
  | inl before ↦ rw before (tt, named)
  | inr behind ↦ rw behind (named.0, named_inserted tunes name sets named.1)
]

create_named : (tunes : List Tune) (name : List ℕ) (sets : List TuneSet) (found : Option TuneSet) → NameTunes tunes sets
    → NameTunes tunes (create_unless name sets found).0
create_named tunes name sets (Some set) named = named
create_named tunes name sets None named = elim (cases_Bool (leb most_sets (length sets))) [
  | inl full ↦ rw full named
  | inr room ↦ rw room (named_inserted tunes name sets named)
]

-- a new set
pub named_create : (tunes : List Tune) (name : List ℕ) (sets : List TuneSet) → NameTunes tunes sets → NameTunes tunes (create_set name sets).0
named_create tunes name sets named = elim (cases_Bool (is_good_name name)) [
  | inl good ↦ rw good (create_named tunes name sets (set_at name sets) named)
  | inr bad ↦ rw bad named
]

-- the set of a name with other numbers of tunes
named_with_numbers : (tunes : List Tune) (name numbers : List ℕ) (sets : List TuneSet) → AreHeld tunes numbers → NameTunes tunes sets
    → NameTunes tunes (with_numbers name numbers sets)
named_with_numbers tunes name numbers [] held named = tt
named_with_numbers tunes name numbers (set ∷ sets) held named = elim (cases_Bool (bytes_eq set.name name)) [
  | inl same ↦ rw same (held, named.1)
  | inr other ↦ rw other (named.0, named_with_numbers tunes name numbers sets held named.1)
]

-- the places of the set of a name name tunes
pub held_at : (tunes : List Tune) (name : List ℕ) (sets : List TuneSet) (set : TuneSet) → NameTunes tunes sets → set_at name sets ≡ Some set
    → AreHeld tunes set.numbers
held_at tunes name [] set named found = cc
held_at tunes name (first ∷ sets) set named found = elim (cases_Bool (bytes_eq first.name name)) [
  | inl same ↦ let is = rw same at found in let e : first ≡ set = cc in subst (λ (s : TuneSet). AreHeld tunes s.numbers) e named.0
  | inr other ↦ let later = rw other at found in held_at tunes name sets set named.1 later
]

held_push : (tunes : List Tune) (numbers : List ℕ) (number : ℕ) → AreHeld tunes numbers → IsSome (tune_at number tunes)
    → AreHeld tunes (numbers ++ number ∷ [])
held_push tunes [] number held is_there = (is_there, tt)
held_push tunes (n ∷ numbers) number held is_there = (held.0, held_push tunes numbers number held.1 is_there)

held_remove : (tunes : List Tune) (numbers : List ℕ) (i : ℕ) → AreHeld tunes numbers → AreHeld tunes (take i numbers ++ drop (suc i) numbers)
held_remove tunes [] zero held = tt
held_remove tunes [] (suc i) held = tt
held_remove tunes (n ∷ numbers) zero held = held.1
held_remove tunes (n ∷ numbers) (suc i) held = (held.0, held_remove tunes numbers i held.1)

add_named : (tunes : List Tune) (name : List ℕ) (number : ℕ) (sets : List TuneSet) (found : Option TuneSet) → NameTunes tunes sets
    → IsSome (tune_at number tunes) → set_at name sets ≡ found → NameTunes tunes (add_to name number sets found).0
add_named tunes name number sets None named is_there found = named
add_named tunes name number sets (Some set) named is_there found = elim (cases_Bool (leb most_places (length set.numbers))) [
  | inl full ↦ rw full named
  | inr room ↦
      let held = held_push tunes set.numbers number (held_at tunes name sets set named found) is_there in
      rw room (named_with_numbers tunes name (set.numbers ++ number ∷ []) sets held named)
]

-- the number of a tune more
pub named_add : (tunes : List Tune) (name : List ℕ) (number : ℕ) (sets : List TuneSet) → NameTunes tunes sets → IsSome (tune_at number tunes)
    → NameTunes tunes (add_number name number sets).0
named_add tunes name number sets named is_there = add_named tunes name number sets (set_at name sets) named is_there refl

cut_named : (tunes : List Tune) (name : List ℕ) (place : ℕ) (sets : List TuneSet) (found : Option TuneSet) → NameTunes tunes sets
    → set_at name sets ≡ found → NameTunes tunes (cut_from name place sets found).0
cut_named tunes name place sets None named found = named
cut_named tunes name place sets (Some set) named found = elim (cases_Bool (has_place place set.numbers)) [
  | inl has ↦
      let held = held_remove tunes set.numbers (place - 1) (held_at tunes name sets set named found) in
      rw has (named_with_numbers tunes name (remove set.numbers (place - 1)) sets held named)
  | inr nay ↦ rw nay named
]

-- a place less
pub named_cut : (tunes : List Tune) (name : List ℕ) (place : ℕ) (sets : List TuneSet) → NameTunes tunes sets → NameTunes tunes (cut_place name place sets).0
named_cut tunes name place sets named = cut_named tunes name place sets (set_at name sets) named refl

named_rest : (tunes : List Tune) (name : List ℕ) (sets : List TuneSet) → NameTunes tunes sets → NameTunes tunes (sets_without name sets)
named_rest tunes name [] named = tt
named_rest tunes name (set ∷ sets) named = elim (cases_Bool (bytes_eq set.name name)) [
  | inl same ↦ rw same named.1
  | inr other ↦ rw other (named.0, named_rest tunes name sets named.1)
]

drop_named : (tunes : List Tune) (name : List ℕ) (sets : List TuneSet) (found : Option TuneSet) → NameTunes tunes sets
    → NameTunes tunes (drop_found name sets found).0
drop_named tunes name sets None named = named
drop_named tunes name sets (Some set) named = named_rest tunes name sets named

-- a set less
pub named_drop : (tunes : List Tune) (name : List ℕ) (sets : List TuneSet) → NameTunes tunes sets → NameTunes tunes (drop_set name sets).0
named_drop tunes name sets named = drop_named tunes name sets (set_at name sets) named
