-- The places of a name after each call.
use Rattle.std.proofs.Common.{◌≡◌, ◌≢◌, ℕ, ◌-◌, Bool, true, false, cond, leb, eqb, List, [], ◌∷◌, ◌++◌, length, Option, Some, None, Ok, Err, IsOk, refl, ap}
use Rattle.std.proofs.Common.{sym, ◌∙◌, subst, inl, inr, option_map}
use Rattle.std.specs.List.{remove}
use Rattle.std.specs.Str.{bytes_eq}
use Rattle.std.proofs.lemmas.Bool.{cases_Bool, ne_eqb}
use Rattle.std.proofs.lemmas.Slice.Eq.{bytes_eq-Decides}
use Rattle.tune_sets.specs.Names.{is_good_name, is_before}
use Rattle.tune_sets.specs.Limits.{most_places, most_sets}
use Rattle.tune_sets.specs.Numbers.{renumbered, renumbered_all, is_among, has_place}
use Rattle.tune_sets.specs.Sets.{NamesRiseFrom, AreSetLists, set_at, holder, set_inserted, empty_set, with_numbers, without_set, renumbered_set}
use Rattle.tune_sets.specs.Sets.{renumbered_sets}
use Rattle.tune_sets.specs.Calls.{create_unless, create_set, add_to, add_number, cut_from, cut_place, drop_found, drop_set, places_found, places_of}
use Rattle.tune_sets.specs.Laws.{LeavesPlaces, HoldsNumber, IsLeastHolder}
use Rattle.tune_sets.specs.declared.faults.SetFault.TheVariants.{NoSuchSet}
use Rattle.tune_sets.specs.declared.set_lists.TuneSet.{TuneSet}
use Rattle.tune_sets.proofs.NameOrder.{same_name, before_other, before_differs, before_trans}
use Rattle.tune_sets.proofs.ChangeLemmas.{rises-below}

-- two names are told apart by the test
pub differs : (name other : List ℕ) → other ≢ name → bytes_eq name other ≡ false
differs name other ne = elim (cases_Bool (bytes_eq name other)) [
  | inl same ↦ absurd (ne (sym ((bytes_eq-Decides name other).0 same)))
  | inr nay ↦ nay
]

-- A SET MORE
pub set_at-inserted_same : (new : TuneSet) (sets : List TuneSet) → set_at new.name sets ≡ None → set_at new.name (set_inserted new sets) ≡ Some new
set_at-inserted_same new [] none = rw (same_name new.name new.name refl) refl
set_at-inserted_same new (set ∷ sets) none = elim (cases_Bool (is_before new.name set.name)) [
  | inl lesser ↦ rw (lesser, same_name new.name new.name refl) refl
  | inr not_lesser ↦ elim (cases_Bool (bytes_eq set.name new.name)) [
    | inl same ↦ let e = rw same at none in cc
    | inr other ↦ let later = rw other at none in rw (not_lesser, other) (set_at-inserted_same new sets later)
  ]
]

pub set_at-inserted_other : (name : List ℕ) (new : TuneSet) (sets : List TuneSet) → name ≢ new.name → set_at name (set_inserted new sets) ≡ set_at name sets
set_at-inserted_other name new [] ne = rw (differs new.name name ne) refl
set_at-inserted_other name new (set ∷ sets) ne = elim (cases_Bool (is_before new.name set.name)) [
  | inl lesser ↦ rw (lesser, differs new.name name ne) refl
  | inr not_lesser ↦ rw not_lesser (ap (λ found. cond (bytes_eq set.name name) (Some set) found) (set_at-inserted_other name new sets ne))
]

-- A SET WITH OTHER NUMBERS
pub set_at-with_numbers_same : (name numbers : List ℕ) (sets : List TuneSet) (set : TuneSet) → set_at name sets ≡ Some set
    → set_at name (with_numbers name numbers sets) ≡ Some (record { name = set.name; numbers = numbers })
set_at-with_numbers_same name numbers [] set found = cc
set_at-with_numbers_same name numbers (first ∷ sets) set found = elim (cases_Bool (bytes_eq first.name name)) [
  | inl same ↦
      let is = rw same at found in
      let e : first ≡ set = cc in
      rw (same, same) (ap (λ (s : TuneSet). Some (record { name = s.name; numbers = numbers })) e)
  | inr other ↦ let later = rw other at found in rw (other, other) (set_at-with_numbers_same name numbers sets set later)
]

pub set_at-with_numbers_other : (name other numbers : List ℕ) (sets : List TuneSet) → other ≢ name
    → set_at other (with_numbers name numbers sets) ≡ set_at other sets
set_at-with_numbers_other name other numbers [] ne = refl
set_at-with_numbers_other name other numbers (first ∷ sets) ne = elim (cases_Bool (bytes_eq first.name name)) [
  | inl same ↦
      let e = (bytes_eq-Decides first.name name).0 same in
      let apart = differs first.name other (λ h. ne (h ∙ e)) in
      rw (same, apart) refl
  | inr nay ↦ rw nay (ap (λ found. cond (bytes_eq first.name other) (Some first) found) (set_at-with_numbers_other name other numbers sets ne))
]

-- A SET LESS
-- where names rise from above this one, no set has it
set_at-below : (name : List ℕ) (sets : List TuneSet) → NamesRiseFrom name sets → set_at name sets ≡ None
set_at-below name [] rises = refl
set_at-below name (set ∷ sets) rises =
    rw (before_other name set.name rises.0) (set_at-below name sets (rises-below name set.name sets rises.0 rises.1))

set_at-without_same : (low name : List ℕ) (sets : List TuneSet) → NamesRiseFrom low sets → set_at name (without_set name sets) ≡ None
set_at-without_same low name [] rises = refl
set_at-without_same low name (set ∷ sets) rises = elim (cases_Bool (bytes_eq set.name name)) [
  | inl same ↦
      let e = (bytes_eq-Decides set.name name).0 same in
      rw same (set_at-below name sets (subst (λ (n : List ℕ). NamesRiseFrom n sets) e rises.1))
  | inr nay ↦ rw (nay, nay) (set_at-without_same set.name name sets rises.1)
]

pub set_at-without_other : (name other : List ℕ) (sets : List TuneSet) → other ≢ name → set_at other (without_set name sets) ≡ set_at other sets
set_at-without_other name other [] ne = refl
set_at-without_other name other (set ∷ sets) ne = elim (cases_Bool (bytes_eq set.name name)) [
  | inl same ↦
      let e = (bytes_eq-Decides set.name name).0 same in
      let apart = differs set.name other (λ h. ne (h ∙ e)) in
      rw (same, apart) refl
  | inr nay ↦ rw nay (ap (λ found. cond (bytes_eq set.name other) (Some set) found) (set_at-without_other name other sets ne))
]

-- SETS UNDER OTHER NUMBERS
pub set_at-renumbered : (from to : ℕ) (name : List ℕ) (sets : List TuneSet)
    → set_at name (renumbered_sets from to sets) ≡ option_map (renumbered_set from to) (set_at name sets)
set_at-renumbered from to name [] = refl
set_at-renumbered from to name (set ∷ sets) = elim (cases_Bool (bytes_eq set.name name)) [
  | inl same ↦ rw same refl
  | inr nay ↦ rw nay (set_at-renumbered from to name sets)
]

not_renumbered : (from to n : ℕ) → from ≢ to → eqb (renumbered from to n) from ≡ false
not_renumbered from to n ne = elim (cases_Bool (eqb n from)) [
  | inl same ↦ rw same (ne_eqb to from (λ h. ne (sym h)))
  | inr nay ↦ rw nay nay
]

not_among : (from to : ℕ) (numbers : List ℕ) → from ≢ to → is_among from (renumbered_all from to numbers) ≡ false
not_among from to [] ne = refl
not_among from to (n ∷ numbers) ne = rw (not_renumbered from to n ne) (not_among from to numbers ne)

-- no set holds a number that became another one
pub holder-renumbered : (from to : ℕ) (sets : List TuneSet) → from ≢ to → holder from (renumbered_sets from to sets) ≡ None
holder-renumbered from to [] ne = refl
holder-renumbered from to (set ∷ sets) ne = rw (not_among from to set.numbers ne) (holder-renumbered from to sets ne)

among_none : (from to : ℕ) (numbers : List ℕ) → is_among from numbers ≡ false → renumbered_all from to numbers ≡ numbers
among_none from to [] none = refl
among_none from to (n ∷ numbers) none = elim (cases_Bool (eqb n from)) [
  | inl same ↦ let e = rw same at none in cc
  | inr nay ↦ let later = rw nay at none in rw nay (ap (λ ns. n ∷ ns) (among_none from to numbers later))
]

-- where no set holds a number that becomes another one, all stay
pub unheld_renumbered : (from to : ℕ) (sets : List TuneSet) → holder from sets ≡ None → renumbered_sets from to sets ≡ sets
unheld_renumbered from to [] none = refl
unheld_renumbered from to (set ∷ sets) none = elim (cases_Bool (is_among from set.numbers)) [
  | inl among ↦ let e = rw among at none in cc
  | inr nay ↦
      let later = rw nay at none in
      let with_these : List ℕ → TuneSet = λ numbers. record { name = set.name; numbers = numbers } in
      ap (λ numbers. with_these numbers ∷ renumbered_sets from to sets) (among_none from to set.numbers nay)
      ∙ ap (λ others. set ∷ others) (unheld_renumbered from to sets later)
]

-- WHAT HOLDS A NUMBER
-- where none does, the set of no name has it
pub holder-none : (number : ℕ) (sets : List TuneSet) (name : List ℕ) (set : TuneSet) → holder number sets ≡ None → set_at name sets ≡ Some set
    → is_among number set.numbers ≡ false
holder-none number [] name set none found = cc
holder-none number (first ∷ sets) name set none found = elim (cases_Bool (is_among number first.numbers)) [
  | inl among ↦ let e = rw among at none in cc
  | inr nay ↦
      let later = rw nay at none in
      elim (cases_Bool (bytes_eq first.name name)) [
        | inl same ↦ let is = rw same at found in let e : first ≡ set = cc in ap (λ (s : TuneSet). is_among number s.numbers) (sym e) ∙ nay
        | inr other ↦ let rest = rw other at found in holder-none number sets name set later rest
      ]
]

-- the holder is above what the names rise from
holder-above : (low : List ℕ) (number : ℕ) (sets : List TuneSet) (name : List ℕ) → NamesRiseFrom low sets → holder number sets ≡ Some name
    → is_before low name ≡ true
holder-above low number [] name rises holds = cc
holder-above low number (first ∷ sets) name rises holds = elim (cases_Bool (is_among number first.numbers)) [
  | inl among ↦ let is = rw among at holds in let e : first.name ≡ name = cc in ap (is_before low) (sym e) ∙ rises.0
  | inr nay ↦ let later = rw nay at holds in before_trans low first.name name rises.0 (holder-above first.name number sets name rises.1 later)
]

-- it has a set, in which the number is
pub holder-holds : (low : List ℕ) (number : ℕ) (sets : List TuneSet) (name : List ℕ) → NamesRiseFrom low sets → holder number sets ≡ Some name
    → (set : TuneSet) × (set_at name sets ≡ Some set) × (is_among number set.numbers ≡ true)
holder-holds low number [] name rises holds = cc
holder-holds low number (first ∷ sets) name rises holds = elim (cases_Bool (is_among number first.numbers)) [
  | inl among ↦ let is = rw among at holds in let e : first.name ≡ name = cc in (first, rw (same_name first.name name e) refl, among)
  | inr nay ↦
      let later = rw nay at holds in
      let rest = holder-holds first.name number sets name rises.1 later in
      let apart = before_differs first.name name (holder-above first.name number sets name rises.1 later) in
      (rest.0, rw apart rest.1, rest.2)
]

-- and no lesser name has one
pub holder-least : (low : List ℕ) (number : ℕ) (sets : List TuneSet) (name other : List ℕ) (set : TuneSet) → NamesRiseFrom low sets
    → holder number sets ≡ Some name → is_before other name ≡ true → set_at other sets ≡ Some set → is_among number set.numbers ≡ false
holder-least low number [] name other set rises holds lesser found = cc
holder-least low number (first ∷ sets) name other set rises holds lesser found = elim (cases_Bool (is_among number first.numbers)) [
  | inl among ↦
      let is = rw among at holds in
      let e : first.name ≡ name = cc in
      let before : is_before other first.name ≡ true = ap (is_before other) e ∙ lesser in
      let apart = rw (before_other other first.name before) at found in
      let gone = set_at-low other first.name sets before rises.1 in
      let nay : None ≡ Some set = sym gone ∙ apart in
      cc
  | inr nay ↦
      let later = rw nay at holds in
      elim (cases_Bool (bytes_eq first.name other)) [
        | inl same ↦ let is = rw same at found in let e : first ≡ set = cc in ap (λ (s : TuneSet). is_among number s.numbers) (sym e) ∙ nay
        | inr differs ↦ let rest = rw differs at found in holder-least first.name number sets name other set rises.1 later lesser rest
      ]
]
  where
    set_at-low : (name low : List ℕ) (sets : List TuneSet) → is_before name low ≡ true → NamesRiseFrom low sets → set_at name sets ≡ None
    set_at-low name low sets before rises = set_at-below name sets (rises-below name low sets before rises)

-- so the holder is the least one
pub least_holder : (number : ℕ) (name : List ℕ) (sets : List TuneSet) → AreSetLists sets → holder number sets ≡ Some name → IsLeastHolder number name sets
least_holder number name sets are holds =
    let found = holder-holds [] number sets name are.rises holds in
    record {
      holds = record { set = found.0; named = found.1; among = found.2 };
      least = λ other lesser its.
          let nay = holder-least [] number sets name other its.set are.rises holds lesser its.named in
          let e : true ≡ false = sym its.among ∙ nay in
          cc;
    }

-- and where there is none no set holds the number
pub no_holder : (number : ℕ) (name : List ℕ) (sets : List TuneSet) → holder number sets ≡ None → HoldsNumber number name sets → ⊥
no_holder number name sets none its =
    let nay = holder-none number sets name its.set none its.named in
    let e : true ≡ false = sym its.among ∙ nay in
    cc

-- THE CALLS
places_same : (name : List ℕ) (sets others : List TuneSet) → set_at name sets ≡ set_at name others → places_of name sets ≡ places_of name others
places_same name sets others e = ap places_found e

created_by : (name : List ℕ) (sets : List TuneSet) (found : Option TuneSet) (full : Bool) → set_at name sets ≡ found → leb most_sets (length sets) ≡ full
    → IsOk (create_unless name sets found).1 → LeavesPlaces name (Ok []) sets (create_unless name sets found).0
created_by name sets (Some set) full is size ok = cc
created_by name sets None true is size ok = let nay = rw size at ok in cc
created_by name sets None false is size ok = rw size record {
  its = ap places_found (set_at-inserted_same (empty_set name) sets is);
  others = λ other ne. ap places_found (set_at-inserted_other other (empty_set name) sets ne);
}

pub created : (name : List ℕ) (sets : List TuneSet) → IsOk (create_set name sets).1 → LeavesPlaces name (Ok []) sets (create_set name sets).0
created name sets ok = elim (cases_Bool (is_good_name name)) [
  | inl good ↦ let yes = rw good at ok in rw good (created_by name sets (set_at name sets) _ refl refl yes)
  | inr bad ↦ let nay = rw bad at ok in cc
]

changed_by : (name numbers : List ℕ) (sets : List TuneSet) (set : TuneSet) → set_at name sets ≡ Some set
    → LeavesPlaces name (Ok numbers) sets (with_numbers name numbers sets)
changed_by name numbers sets set is = record {
  its = ap places_found (set_at-with_numbers_same name numbers sets set is);
  others = λ other ne. ap places_found (set_at-with_numbers_other name other numbers sets ne);
}

added_by : (name : List ℕ) (number : ℕ) (sets : List TuneSet) (found : Option TuneSet) (old : List ℕ) → set_at name sets ≡ found
    → places_found found ≡ Ok old → IsOk (add_to name number sets found).1 → LeavesPlaces name (Ok (old ++ number ∷ [])) sets (add_to name number sets found).0
added_by name number sets None old is was ok = cc
added_by name number sets (Some set) old is was ok = elim (cases_Bool (leb most_places (length set.numbers))) [
  | inl full ↦ let nay = rw full at ok in cc
  | inr room ↦
      let e : set.numbers ≡ old = cc in
      rw (room, ← e) (changed_by name (set.numbers ++ number ∷ []) sets set is)
]

pub added : (name : List ℕ) (number : ℕ) (sets : List TuneSet) (old : List ℕ) → places_of name sets ≡ Ok old → IsOk (add_number name number sets).1
    → LeavesPlaces name (Ok (old ++ number ∷ [])) sets (add_number name number sets).0
added name number sets old was ok = added_by name number sets (set_at name sets) old refl was ok

cut_by : (name : List ℕ) (place : ℕ) (sets : List TuneSet) (found : Option TuneSet) (old : List ℕ) → set_at name sets ≡ found
    → places_found found ≡ Ok old → IsOk (cut_from name place sets found).1
    → LeavesPlaces name (Ok (remove old (place - 1))) sets (cut_from name place sets found).0
cut_by name place sets None old is was ok = cc
cut_by name place sets (Some set) old is was ok = elim (cases_Bool (has_place place set.numbers)) [
  | inl there ↦
      let e : set.numbers ≡ old = cc in
      rw (there, ← e) (changed_by name (remove set.numbers (place - 1)) sets set is)
  | inr nay ↦ let nay = rw nay at ok in cc
]

pub cut_one : (name : List ℕ) (place : ℕ) (sets : List TuneSet) (old : List ℕ) → places_of name sets ≡ Ok old → IsOk (cut_place name place sets).1
    → LeavesPlaces name (Ok (remove old (place - 1))) sets (cut_place name place sets).0
cut_one name place sets old was ok = cut_by name place sets (set_at name sets) old refl was ok

dropped_by : (name : List ℕ) (sets : List TuneSet) (found : Option TuneSet) → NamesRiseFrom [] sets → IsOk (drop_found name sets found).1
    → LeavesPlaces name (Err NoSuchSet) sets (drop_found name sets found).0
dropped_by name sets None rises ok = cc
dropped_by name sets (Some set) rises ok = record {
  its = ap places_found (set_at-without_same [] name sets rises);
  others = λ other ne. ap places_found (set_at-without_other name other sets ne);
}

pub dropped : (name : List ℕ) (sets : List TuneSet) → NamesRiseFrom [] sets → IsOk (drop_set name sets).1
    → LeavesPlaces name (Err NoSuchSet) sets (drop_set name sets).0
dropped name sets rises ok = dropped_by name sets (set_at name sets) rises ok

renumbered_by : (from to : ℕ) (found : Option TuneSet) (old : List ℕ) → places_found found ≡ Ok old
    → places_found (option_map (renumbered_set from to) found) ≡ Ok (renumbered_all from to old)
renumbered_by from to None old was = cc
renumbered_by from to (Some set) old was = let e : set.numbers ≡ old = cc in ap (λ numbers. Ok (renumbered_all from to numbers)) e

pub renumbers : (from to : ℕ) (name : List ℕ) (sets : List TuneSet) (old : List ℕ) → places_of name sets ≡ Ok old
    → places_of name (renumbered_sets from to sets) ≡ Ok (renumbered_all from to old)
renumbers from to name sets old was = ap places_found (set_at-renumbered from to name sets) ∙ renumbered_by from to (set_at name sets) old was
