-- Tunes taken out and put in.
use Rattle.std.proofs.Common.{◌≡◌, ◌≢◌, ℕ, ◌<◌, max, eqb, ltb, List, [], ◌∷◌, ◌++◌, Some, None, refl, sym, ap, ◌∙◌}
use Rattle.std.proofs.Common.{subst, arith, inl, inr, option_map}
use Rattle.std.specs.List.{AllByRecursion}
use Rattle.std.proofs.lemmas.Bool.{cases_Bool, eqb-true, eq-eqb, ne_eqb, lt-ltb, le-ltb}
use Rattle.tune_store.specs.State.{NumbersRiseFrom, greatest, tune_at}
use Rattle.tune_store.specs.TuneSteps.{with_tune, without_tune, tune_inserted}
use Rattle.tune_store.specs.declared.tune.Tune.{Tune}
use Rattle.tune_store.proofs.PlaceLemmas.{tune_at-number}
use Rattle.tune_changes.specs.ChangedStates.{anew, all_anew}

-- IN AND OUT
pub found_above : (low number : ℕ) (tunes : List Tune) (tune : Tune) → NumbersRiseFrom low tunes → tune_at number tunes ≡ Some tune → low < tune.number
found_above low number [] tune rises found = cc
found_above low number (first ∷ tunes) tune rises found = elim (cases_Bool (eqb first.number number)) [
  | inl same ↦ let it = rw same at found in let e : first ≡ tune = cc in subst (λ (t : Tune). low < t.number) e rises.0
  | inr other ↦
      let later = rw other at found in
      let more = found_above first.number number tunes tune rises.1 later in
      let here = rises.0 in
      omega arith
]

-- a tune that stands before all others
pub inserted_below : (tune : Tune) (tunes : List Tune) → NumbersRiseFrom tune.number tunes → tune_inserted tune tunes ≡ tune ∷ tunes
inserted_below tune [] rises = refl
inserted_below tune (first ∷ tunes) rises = rw (lt-ltb tune.number first.number rises.0) refl

-- and one behind all others
pub inserted_last : (tune : Tune) (tunes : List Tune) → greatest tunes < tune.number → tune_inserted tune tunes ≡ tunes ++ tune ∷ []
inserted_last tune [] above = refl
inserted_last tune (first ∷ tunes) above =
    rw (le-ltb tune.number first.number (omega arith)) (ap (λ (rest : List Tune). first ∷ rest) (inserted_last tune tunes (omega arith)))

-- what was put in and is taken out
pub in_and_out : (number : ℕ) (new : Tune) (tunes : List Tune) → new.number ≡ number → tune_at number tunes ≡ None
    → without_tune number (tune_inserted new tunes) ≡ tunes
in_and_out number new [] own none = rw (eq-eqb new.number number own) refl
in_and_out number new (tune ∷ tunes) own none = elim (cases_Bool (eqb tune.number number)) [
  | inl same ↦ let taken = rw same at none in cc
  | inr other ↦
      let later = rw other at none in
      elim (cases_Bool (ltb new.number tune.number)) [
        | inl before ↦ rw (before, eq-eqb new.number number own) refl
        | inr behind ↦ rw (behind, other) (ap (λ (rest : List Tune). tune ∷ rest) (in_and_out number new tunes own later))
      ]
]

-- what was taken out and is put in
pub out_and_in : (low number : ℕ) (tune : Tune) (tunes : List Tune) → NumbersRiseFrom low tunes → tune_at number tunes ≡ Some tune
    → tune_inserted tune (without_tune number tunes) ≡ tunes
out_and_in low number tune [] rises found = cc
out_and_in low number tune (first ∷ tunes) rises found = elim (cases_Bool (eqb first.number number)) [
  | inl same ↦
      let it = rw same at found in
      let e : first ≡ tune = cc in
      rw same (ap (λ (t : Tune). tune_inserted t tunes) (sym e) ∙ inserted_below first tunes rises.1)
  | inr other ↦
      let later = rw other at found in
      let above = found_above first.number number tunes tune rises.1 later in
      rw (other, le-ltb tune.number first.number (omega arith))
      (ap (λ (rest : List Tune). first ∷ rest) (out_and_in first.number number tune tunes rises.1 later))
]

-- what was not there
pub out_already : (number : ℕ) (tunes : List Tune) → tune_at number tunes ≡ None → without_tune number tunes ≡ tunes
out_already number [] none = refl
out_already number (tune ∷ tunes) none = elim (cases_Bool (eqb tune.number number)) [
  | inl same ↦ let taken = rw same at none in cc
  | inr other ↦ let later = rw other at none in rw other (ap (λ (rest : List Tune). tune ∷ rest) (out_already number tunes later))
]

-- a tune in the place of that of its number
pub with_tune_is : (low : ℕ) (new tune : Tune) (tunes : List Tune) → NumbersRiseFrom low tunes → tune_at new.number tunes ≡ Some tune
    → with_tune new tunes ≡ tune_inserted new (without_tune new.number tunes)
with_tune_is low new tune [] rises found = cc
with_tune_is low new tune (first ∷ tunes) rises found = elim (cases_Bool (eqb first.number new.number)) [
  | inl same ↦
      let e : first.number ≡ new.number = eqb-true first.number new.number same in
      rw same (sym (inserted_below new tunes (subst (λ n. NumbersRiseFrom n tunes) e rises.1)))
  | inr other ↦
      let later = rw other at found in
      let above = found_above first.number new.number tunes tune rises.1 later in
      let its = tune_at-number new.number tunes tune later in
      rw (other, le-ltb new.number first.number (omega arith))
      (ap (λ (rest : List Tune). first ∷ rest) (with_tune_is first.number new tune tunes rises.1 later))
]

-- what is found where a tune was put in
pub found_in : (number : ℕ) (new : Tune) (tunes : List Tune) → new.number ≡ number → tune_at number tunes ≡ None
    → tune_at number (tune_inserted new tunes) ≡ Some new
found_in number new [] own none = rw (eq-eqb new.number number own) refl
found_in number new (tune ∷ tunes) own none = elim (cases_Bool (eqb tune.number number)) [
  | inl same ↦ let taken = rw same at none in cc
  | inr other ↦
      let later = rw other at none in
      elim (cases_Bool (ltb new.number tune.number)) [
        | inl before ↦ rw (before, eq-eqb new.number number own) refl
        | inr behind ↦ rw (behind, other) (found_in number new tunes own later)
      ]
]

-- BEHIND ALL OTHERS
pub none_above : (number : ℕ) (tunes : List Tune) → greatest tunes < number → tune_at number tunes ≡ None
none_above number [] above = refl
none_above number (tune ∷ tunes) above = rw (ne_eqb tune.number number (λ e. absurd (omega arith))) (none_above number tunes (omega arith))

pub found_last : (tunes : List Tune) (tune : Tune) → greatest tunes < tune.number → tune_at tune.number (tunes ++ tune ∷ []) ≡ Some tune
found_last [] tune above = rw (eq-eqb tune.number tune.number refl) refl
found_last (first ∷ tunes) tune above =
    rw (ne_eqb first.number tune.number (λ e. absurd (omega arith))) (found_last tunes tune (omega arith))

pub without_last : (tunes : List Tune) (tune : Tune) → greatest tunes < tune.number → without_tune tune.number (tunes ++ tune ∷ []) ≡ tunes
without_last [] tune above = rw (eq-eqb tune.number tune.number refl) refl
without_last (first ∷ tunes) tune above =
    rw (ne_eqb first.number tune.number (λ e. absurd (omega arith))) (ap (λ (rest : List Tune). first ∷ rest) (without_last tunes tune (omega arith)))

pub free_still : (number : ℕ) (tunes : List Tune) (tune : Tune) → tune_at number tunes ≡ None → tune.number ≢ number
    → tune_at number (tunes ++ tune ∷ []) ≡ None
free_still number [] tune none apart = rw (ne_eqb tune.number number apart) refl
free_still number (first ∷ tunes) tune none apart = elim (cases_Bool (eqb first.number number)) [
  | inl same ↦ let taken = rw same at none in cc
  | inr other ↦ let later = rw other at none in rw other (free_still number tunes tune later apart)
]

-- WHAT HOLDS OF EACH
pub all_without : (P : Tune → Type 0) (number : ℕ) (tunes : List Tune) → AllByRecursion P tunes → AllByRecursion P (without_tune number tunes)
all_without P number [] each = tt
all_without P number (tune ∷ tunes) each = elim (cases_Bool (eqb tune.number number)) [
  | inl same ↦ rw same each.1
  | inr other ↦ rw other (each.0, all_without P number tunes each.1)
]

pub all_inserted : (P : Tune → Type 0) (new : Tune) (tunes : List Tune) → P new → AllByRecursion P tunes → AllByRecursion P (tune_inserted new tunes)
all_inserted P new [] its each = (its, tt)
all_inserted P new (tune ∷ tunes) its each = elim (cases_Bool (ltb new.number tune.number)) [
  | inl before ↦ rw before (its, each)
  | inr behind ↦ rw behind (each.0, all_inserted P new tunes its each.1)
]

pub all_found : (P : Tune → Type 0) (number : ℕ) (tunes : List Tune) (tune : Tune) → AllByRecursion P tunes → tune_at number tunes ≡ Some tune → P tune
all_found P number [] tune each found = cc
all_found P number (first ∷ tunes) tune each found = elim (cases_Bool (eqb first.number number)) [
  | inl same ↦ let it = rw same at found in let e : first ≡ tune = cc in subst P e each.0
  | inr other ↦ let later = rw other at found in all_found P number tunes tune each.1 later
]

-- REVISIONS LEFT OUT
pub without_anew : (number : ℕ) (tunes : List Tune) → all_anew (without_tune number tunes) ≡ without_tune number (all_anew tunes)
without_anew number [] = refl
without_anew number (tune ∷ tunes) = elim (cases_Bool (eqb tune.number number)) [
  | inl same ↦ rw same refl
  | inr other ↦ rw other (ap (λ (rest : List Tune). anew tune ∷ rest) (without_anew number tunes))
]

pub inserted_anew : (new : Tune) (tunes : List Tune) → all_anew (tune_inserted new tunes) ≡ tune_inserted (anew new) (all_anew tunes)
inserted_anew new [] = refl
inserted_anew new (tune ∷ tunes) = elim (cases_Bool (ltb new.number tune.number)) [
  | inl before ↦ rw before refl
  | inr behind ↦ rw behind (ap (λ (rest : List Tune). anew tune ∷ rest) (inserted_anew new tunes))
]

pub found_anew : (number : ℕ) (tunes : List Tune) → tune_at number (all_anew tunes) ≡ option_map anew (tune_at number tunes)
found_anew number [] = refl
found_anew number (tune ∷ tunes) = elim (cases_Bool (eqb tune.number number)) [
  | inl same ↦ rw same refl
  | inr other ↦ rw other (found_anew number tunes)
]

pub rises_anew : (low : ℕ) (tunes : List Tune) → NumbersRiseFrom low tunes → NumbersRiseFrom low (all_anew tunes)
rises_anew low [] rises = tt
rises_anew low (tune ∷ tunes) rises = (rises.0, rises_anew tune.number tunes rises.1)

pub greatest_anew : (tunes : List Tune) → greatest (all_anew tunes) ≡ greatest tunes
greatest_anew [] = refl
greatest_anew (tune ∷ tunes) = ap (λ n. max tune.number n) (greatest_anew tunes)
