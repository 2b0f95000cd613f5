-- Set lists taken out and put in.
use Rattle.std.proofs.Common.{◌≡◌, ℕ, ◌+◌, true, List, [], ◌∷◌, length, Some, None, refl, sym, ap, ◌∙◌}
use Rattle.std.proofs.Common.{subst, arith, inl, inr}
use Rattle.std.specs.List.{AllByRecursion}
use Rattle.std.specs.Str.{bytes_eq}
use Rattle.std.proofs.lemmas.Bool.{cases_Bool}
use Rattle.std.proofs.lemmas.Slice.Eq.{bytes_eq-Decides}
use Rattle.tune_sets.specs.Names.{is_before}
use Rattle.tune_sets.specs.Sets.{NamesRiseFrom, set_at, set_inserted, with_numbers, without_set}
use Rattle.tune_sets.specs.declared.set_lists.TuneSet.{TuneSet}
use Rattle.tune_sets.proofs.NameOrder.{same_name, before_other, before_not_after, before_trans}
use Rattle.tune_sets.proofs.ChangeLemmas.{rises-below}

-- the set list of a name, with these numbers
abbrev pub named : List ℕ → List ℕ → TuneSet
named name numbers = record { name = name; numbers = numbers }

pub found_name : (name : List ℕ) (sets : List TuneSet) (set : TuneSet) → set_at name sets ≡ Some set → set.name ≡ name
found_name name [] set found = cc
found_name name (first ∷ sets) set found = elim (cases_Bool (bytes_eq first.name name)) [
  | inl same ↦
      let it = rw same at found in
      let e : first ≡ set = cc in
      subst (λ (s : TuneSet). s.name ≡ name) e ((bytes_eq-Decides first.name name).0 same)
  | inr other ↦ let later = rw other at found in found_name name sets set later
]

found_behind : (low name : List ℕ) (sets : List TuneSet) (set : TuneSet) → NamesRiseFrom low sets → set_at name sets ≡ Some set → is_before low set.name ≡ true
found_behind low name [] set rises found = cc
found_behind low name (first ∷ sets) set rises found = elim (cases_Bool (bytes_eq first.name name)) [
  | inl same ↦ let it = rw same at found in let e : first ≡ set = cc in subst (λ (s : TuneSet). is_before low s.name ≡ true) e rises.0
  | inr other ↦
      let later = rw other at found in
      before_trans low first.name set.name rises.0 (found_behind first.name name sets set rises.1 later)
]

inserted_first : (set : TuneSet) (sets : List TuneSet) → NamesRiseFrom set.name sets → set_inserted set sets ≡ set ∷ sets
inserted_first set [] rises = refl
inserted_first set (first ∷ sets) rises = rw rises.0 refl

none_below : (name : List ℕ) (sets : List TuneSet) → NamesRiseFrom name sets → set_at name sets ≡ None
none_below name [] rises = refl
none_below name (set ∷ sets) rises = rw (before_other name set.name rises.0) (none_below name sets (rises-below name set.name sets rises.0 rises.1))

-- what was taken out is not there
pub none_without : (low name : List ℕ) (sets : List TuneSet) → NamesRiseFrom low sets → set_at name (without_set name sets) ≡ None
none_without low name [] rises = refl
none_without low name (set ∷ sets) rises = elim (cases_Bool (bytes_eq set.name name)) [
  | inl same ↦
      let e = (bytes_eq-Decides set.name name).0 same in
      rw same (none_below name sets (subst (λ (n : List ℕ). NamesRiseFrom n sets) e rises.1))
  | inr other ↦ rw (other, other) (none_without set.name name sets rises.1)
]

-- what was not there
pub set_out_already : (name : List ℕ) (sets : List TuneSet) → set_at name sets ≡ None → without_set name sets ≡ sets
set_out_already name [] none = refl
set_out_already name (set ∷ sets) none = elim (cases_Bool (bytes_eq set.name name)) [
  | inl same ↦ let taken = rw same at none in cc
  | inr other ↦ let later = rw other at none in rw other (ap (λ (rest : List TuneSet). set ∷ rest) (set_out_already name sets later))
]

-- what was taken out and is put in
pub set_out_and_in : (low name : List ℕ) (set : TuneSet) (sets : List TuneSet) → NamesRiseFrom low sets → set_at name sets ≡ Some set
    → set_inserted set (without_set name sets) ≡ sets
set_out_and_in low name set [] rises found = cc
set_out_and_in low name set (first ∷ sets) rises found = elim (cases_Bool (bytes_eq first.name name)) [
  | inl same ↦
      let it = rw same at found in
      let e : first ≡ set = cc in
      rw same (ap (λ (s : TuneSet). set_inserted s sets) (sym e) ∙ inserted_first first sets rises.1)
  | inr other ↦
      let later = rw other at found in
      let behind = before_not_after first.name set.name (found_behind first.name name sets set rises.1 later) in
      rw (other, behind) (ap (λ (rest : List TuneSet). first ∷ rest) (set_out_and_in first.name name set sets rises.1 later))
]

-- WHERE A SET LIST WAS PUT IN
-- what was put in and is taken out
pub set_in_and_out : (name numbers : List ℕ) (sets : List TuneSet) → set_at name sets ≡ None → without_set name (set_inserted (named name numbers) sets) ≡ sets
set_in_and_out name numbers [] none = rw (same_name name name refl) refl
set_in_and_out name numbers (set ∷ sets) none = elim (cases_Bool (bytes_eq set.name name)) [
  | inl same ↦ let taken = rw same at none in cc
  | inr other ↦
      let later = rw other at none in
      elim (cases_Bool (is_before name set.name)) [
        | inl before ↦ rw (before, same_name name name refl) refl
        | inr behind ↦ rw (behind, other) (ap (λ (rest : List TuneSet). set ∷ rest) (set_in_and_out name numbers sets later))
      ]
]

pub set_found_in : (name numbers : List ℕ) (sets : List TuneSet) → set_at name sets ≡ None
    → set_at name (set_inserted (named name numbers) sets) ≡ Some (named name numbers)
set_found_in name numbers [] none = rw (same_name name name refl) refl
set_found_in name numbers (set ∷ sets) none = elim (cases_Bool (bytes_eq set.name name)) [
  | inl same ↦ let taken = rw same at none in cc
  | inr other ↦
      let later = rw other at none in
      elim (cases_Bool (is_before name set.name)) [
        | inl before ↦ rw (before, same_name name name refl) refl
        | inr behind ↦ rw (behind, other) (set_found_in name numbers sets later)
      ]
]

-- its numbers become others
pub renumbered_in : (name numbers others : List ℕ) (sets : List TuneSet) → set_at name sets ≡ None
    → with_numbers name others (set_inserted (named name numbers) sets) ≡ set_inserted (named name others) sets
renumbered_in name numbers others [] none = rw (same_name name name refl) refl
renumbered_in name numbers others (set ∷ sets) none = elim (cases_Bool (bytes_eq set.name name)) [
  | inl same ↦ let taken = rw same at none in cc
  | inr other ↦
      let later = rw other at none in
      elim (cases_Bool (is_before name set.name)) [
        | inl before ↦ rw (before, same_name name name refl) refl
        | inr behind ↦ rw (behind, other) (ap (λ (rest : List TuneSet). set ∷ rest) (renumbered_in name numbers others sets later))
      ]
]

-- WHAT HOLDS OF EACH
pub all_found_set : (P : TuneSet → Type 0) (name : List ℕ) (sets : List TuneSet) (set : TuneSet) → AllByRecursion P sets → set_at name sets ≡ Some set → P set
all_found_set P name [] set each found = cc
all_found_set P name (first ∷ sets) set each found = elim (cases_Bool (bytes_eq first.name name)) [
  | inl same ↦ let it = rw same at found in let e : first ≡ set = cc in subst P e each.0
  | inr other ↦ let later = rw other at found in all_found_set P name sets set each.1 later
]

-- there is one less, where it was there
pub length_without_set : (name : List ℕ) (sets : List TuneSet) (set : TuneSet) → set_at name sets ≡ Some set → length (without_set name sets) + 1 ≡ length sets
length_without_set name [] set found = cc
length_without_set name (first ∷ sets) set found = elim (cases_Bool (bytes_eq first.name name)) [
  | inl same ↦ rw same (omega arith)
  | inr other ↦ let later = rw other at found in let less = length_without_set name sets set later in rw other (omega arith)
]
