-- Which tune has a number, and at which place of the list it is.
use Rattle.std.proofs.Common.{◌≡◌, ℕ, zero, suc, ◌+◌, ◌<◌, ◌≤◌, cond, eqb, List, [], ◌∷◌, ◌++◌, length, take, drop, get_or, Some, None, refl, ap, sym, ◌∙◌}
use Rattle.std.proofs.Common.{arith, inl, inr}
use Rattle.std.proofs.Math.ListN.{set}
use Rattle.std.specs.List.{AllWithin}
use Rattle.std.proofs.lemmas.List.{get_or_default}
use Rattle.std.proofs.lemmas.Bool.{ne_eqb, eq-eqb, eqb-true, cases_Bool}
use Rattle.tune_store.specs.State.{NumbersRiseFrom}
use Rattle.tune_store.specs.State.{tune_at}
use Rattle.tune_store.specs.TuneSteps.{with_tune, without_tune}
use Rattle.tune_store.specs.declared.tune.Tune.{Tune}
use Rattle.std.specs.Prelude.{IsSome}

-- THE TUNE OF A NUMBER
-- the tune of a number has the number
pub tune_at-number : (number : ℕ) (tunes : List Tune) (tune : Tune) → tune_at number tunes ≡ Some tune → tune.number ≡ number
tune_at-number number [] tune h = cc
tune_at-number number (first ∷ tunes) tune h = elim (cases_Bool (eqb first.number number)) [
  | inl same ↦ let found = rw same at h in let e : first ≡ tune = cc in ap (λ (t : Tune). t.number) (sym e) ∙ eqb-true first.number number same
  | inr other ↦ let found = rw other at h in tune_at-number number tunes tune found
]

-- a tune in the place of the one of its number is the tune of the number
pub tune_at-with_tune_same : (new : Tune) (tunes : List Tune) → IsSome (tune_at new.number tunes) → tune_at new.number (with_tune new tunes) ≡ Some new
tune_at-with_tune_same new [] h = cc
tune_at-with_tune_same new (first ∷ tunes) h = elim (cases_Bool (eqb first.number new.number)) [
  | inl same ↦ let own = eq-eqb new.number new.number refl in rw (same, own) refl
  | inr other ↦ let found = rw other at h in rw (other, other) (tune_at-with_tune_same new tunes found)
]

-- and for any other number the tune is as it was
pub tune_at-with_tune_other : (number : ℕ) (new : Tune) (tunes : List Tune) → (new.number ≡ number → ⊥)
    → tune_at number (with_tune new tunes) ≡ tune_at number tunes
tune_at-with_tune_other number new [] ne = refl
tune_at-with_tune_other number new (first ∷ tunes) ne = elim (cases_Bool (eqb first.number new.number)) [
  | inl same ↦
      let e : first.number ≡ new.number = eqb-true first.number new.number same in
      let apart = ne_eqb new.number number ne in
      let apart_first = ne_eqb first.number number (λ h. ne (sym e ∙ h)) in
      rw (same, apart, apart_first) refl
  | inr other ↦ rw other (ap (λ found. cond (eqb first.number number) (Some first) found) (tune_at-with_tune_other number new tunes ne))
]

-- a tune stays where more come after it
pub tune_at-append : (number : ℕ) (tunes more : List Tune) → IsSome (tune_at number tunes) → tune_at number (tunes ++ more) ≡ tune_at number tunes
tune_at-append number [] more h = cc
tune_at-append number (first ∷ tunes) more h = elim (cases_Bool (eqb first.number number)) [
  | inl same ↦ rw same refl
  | inr other ↦ let found = rw other at h in rw other (tune_at-append number tunes more found)
]

-- a tune less, the tunes of other numbers are as they were
pub tune_at-without_other : (number other : ℕ) (tunes : List Tune) → (other ≡ number → ⊥) → tune_at number (without_tune other tunes) ≡ tune_at number tunes
tune_at-without_other number other [] ne = refl
tune_at-without_other number other (first ∷ tunes) ne = elim (cases_Bool (eqb first.number other)) [
  | inl same ↦ let apart = ne_eqb first.number number (λ h. ne (sym (eqb-true first.number other same) ∙ h)) in rw (same, apart) refl
  | inr differs ↦ rw differs (ap (λ found. cond (eqb first.number number) (Some first) found) (tune_at-without_other number other tunes ne))
]

-- where numbers rise from this one, no tune has it
pub tune_at-below : (low number : ℕ) (tunes : List Tune) → number ≤ low → NumbersRiseFrom low tunes → tune_at number tunes ≡ None
tune_at-below low number [] le rises = refl
tune_at-below low number (first ∷ tunes) le rises =
    let above = rises.0 in
    let apart = ne_eqb first.number number (λ same. omega arith) in
    rw apart (tune_at-below first.number number tunes (omega arith) rises.1)

-- a tune that is taken out is not there
pub tune_at-without_same : (low number : ℕ) (tunes : List Tune) → NumbersRiseFrom low tunes → tune_at number (without_tune number tunes) ≡ None
tune_at-without_same low number [] rises = refl
tune_at-without_same low number (first ∷ tunes) rises = elim (cases_Bool (eqb first.number number)) [
  | inl same ↦ let e = eqb-true first.number number same in rw same (tune_at-below first.number number tunes (omega arith) rises.1)
  | inr other ↦ rw (other, other) (tune_at-without_same first.number number tunes rises.1)
]

-- LOOK-UPS
-- each number is above what the list rises from
pub above : (low : ℕ) (tunes : List Tune) (n : ℕ) (d : Tune) → NumbersRiseFrom low tunes → n < length tunes → low < (get_or tunes n d).number
above low [] n d rises l = absurd (omega arith)
above low (tune ∷ tunes) zero d rises l = rises.0
above low (tune ∷ tunes) (suc n) d rises l = let later = above tune.number tunes n d rises.1 (omega arith) in let first = rises.0 in omega arith

-- numbers rise with the place
pub ordered : (low : ℕ) (tunes : List Tune) (i j : ℕ) (d : Tune) → NumbersRiseFrom low tunes → i ≤ j → j < length tunes
    → (get_or tunes i d).number ≤ (get_or tunes j d).number
ordered low [] i j d rises h l = absurd (omega arith)
ordered low (tune ∷ tunes) zero zero d rises h l = omega arith
ordered low (tune ∷ tunes) zero (suc j) d rises h l = let later = above tune.number tunes j d rises.1 (omega arith) in omega arith
ordered low (tune ∷ tunes) (suc i) zero d rises h l = absurd (omega arith)
ordered low (tune ∷ tunes) (suc i) (suc j) d rises h l = ordered tune.number tunes i j d rises.1 (omega arith) (omega arith)

-- the tune at a place is the tune of its number
pub tune_at-place : (low number : ℕ) (tunes : List Tune) (n : ℕ) (d : Tune) → NumbersRiseFrom low tunes → n < length tunes → (get_or tunes n d).number ≡ number
    → tune_at number tunes ≡ Some (get_or tunes n d)
tune_at-place low number [] n d rises l e = absurd (omega arith)
tune_at-place low number (tune ∷ tunes) zero d rises l e = let same = eq-eqb tune.number number e in rw same refl
tune_at-place low number (tune ∷ tunes) (suc n) d rises l e =
    let later = above tune.number tunes n d rises.1 (omega arith) in
    let other = ne_eqb tune.number number (λ same. omega arith) in
    rw other (tune_at-place tune.number number tunes n d rises.1 (omega arith) e)

-- a tune goes to its place
pub with_tune-place : (low : ℕ) (new : Tune) (tunes : List Tune) (n : ℕ) (d : Tune) → NumbersRiseFrom low tunes → n < length tunes
    → (get_or tunes n d).number ≡ new.number → with_tune new tunes ≡ set tunes n new
with_tune-place low new [] n d rises l e = absurd (omega arith)
with_tune-place low new (tune ∷ tunes) zero d rises l e = let same = eq-eqb tune.number new.number e in rw same refl
with_tune-place low new (tune ∷ tunes) (suc n) d rises l e =
    let later = above tune.number tunes n d rises.1 (omega arith) in
    let other = ne_eqb tune.number new.number (λ same. omega arith) in
    rw other (ap (λ ts. tune ∷ ts) (with_tune-place tune.number new tunes n d rises.1 (omega arith) e))

-- a tune is taken out at its place
pub without-place : (low number : ℕ) (tunes : List Tune) (n : ℕ) (d : Tune) → NumbersRiseFrom low tunes → n < length tunes → (get_or tunes n d).number ≡ number
    → without_tune number tunes ≡ take n tunes ++ drop (suc n) tunes
without-place low number [] n d rises l e = absurd (omega arith)
without-place low number (tune ∷ tunes) zero d rises l e = let same = eq-eqb tune.number number e in rw same refl
without-place low number (tune ∷ tunes) (suc n) d rises l e =
    let later = above tune.number tunes n d rises.1 (omega arith) in
    let other = ne_eqb tune.number number (λ same. omega arith) in
    rw other (ap (λ ts. tune ∷ ts) (without-place tune.number number tunes n d rises.1 (omega arith) e))

-- a number that no tune has
pub tune_at-none : (number : ℕ) (tunes : List Tune) → ((n : ℕ) (d : Tune) → n < length tunes → (get_or tunes n d).number ≡ number → ⊥)
    → tune_at number tunes ≡ None
tune_at-none number [] h = refl
tune_at-none number (tune ∷ tunes) h =
    let other = ne_eqb tune.number number (h 0 tune (omega arith)) in
    rw other (tune_at-none number tunes (λ n d l. h (suc n) d (omega arith)))

-- BY HALVES
-- up to a tune of a lesser number all are lesser, and from one that is not lesser on none is
pub lesser : (number : ℕ) (tunes : List Tune) (place : ℕ) (tune : Tune) → NumbersRiseFrom 0 tunes → place < length tunes → tune ≡ get_or tunes place tune
    → tune.number < number → AllWithin (λ t. t.number < number) tunes 0 (place + 1)
lesser number tunes place tune rises l is less = λ k d from below.
    (let le = ordered 0 tunes k place d rises (omega arith) l in
    let same : tune.number ≡ (get_or tunes place d).number = ap (λ (t : Tune). t.number) (is ∙ get_or_default tunes place tune d l) in omega arith)

pub not_lesser : (number : ℕ) (tunes : List Tune) (place : ℕ) (tune : Tune) → NumbersRiseFrom 0 tunes → place < length tunes → tune ≡ get_or tunes place tune
    → number ≤ tune.number → AllWithin (λ t. number ≤ t.number) tunes place (length tunes)
not_lesser number tunes place tune rises l is le = λ k d from to.
    (let later = ordered 0 tunes place k d rises from to in
    let same : tune.number ≡ (get_or tunes place d).number = ap (λ (t : Tune). t.number) (is ∙ get_or_default tunes place tune d l) in omega arith)
