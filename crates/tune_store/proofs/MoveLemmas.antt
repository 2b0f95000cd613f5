-- A tune under another number.
use Rattle.std.proofs.Common.{◌≡◌, ℕ, ◌+◌, ◌<◌, ◌≤◌, max, cond, eqb, ltb, List, [], ◌∷◌, length, Option, Some, None, refl, ap, sym, ◌∙◌}
use Rattle.std.proofs.Common.{inl, inr, arith, subst}
use Rattle.std.specs.Prelude.{◌≢◌}
use Rattle.std.specs.List.{AllByRecursion}
use Rattle.std.proofs.lemmas.Bool.{cases_Bool, eqb-true, eqb-false, eq-eqb, ne_eqb, ltb-true, ltb-false}
use Rattle.tune_store.specs.Limits.{greatest_number}
use Rattle.tune_store.specs.State.{NumbersRiseFrom, greatest, tune_at, IsTune, IsTunes}
use Rattle.tune_store.specs.TuneSteps.{without_tune, tune_inserted, moved_tune, moved_if, moved}
use Rattle.tune_store.specs.declared.tune.Tune.{Tune}
use Rattle.tune_store.proofs.PlaceLemmas.{tune_at-number, tune_at-without_other}
use Rattle.tune_store.proofs.StateLemmas.{rises-without, greatest-without, each-without}
use Rattle.tune_store.specs.declared.layout.Layout.{Layout}

-- the tune under a number
abbrev pub under : ℕ → Tune → Tune
under to tune = record tune { number = to }

-- a number that a tune has is none that no tune has
pub free_apart : (number to : ℕ) (tunes : List Tune) (tune : Tune) → tune_at number tunes ≡ Some tune → tune_at to tunes ≡ None → number ≢ to
free_apart number to tunes tune found free same =
    let also : tune_at number tunes ≡ None = ap (λ n. tune_at n tunes) same ∙ free in
    cc

-- a number is at most the greatest
pub number_within : (number : ℕ) (tunes : List Tune) (tune : Tune) → tune_at number tunes ≡ Some tune → number ≤ greatest tunes
number_within number [] tune found = cc
number_within number (first ∷ tunes) tune found = elim (cases_Bool (eqb first.number number)) [
  | inl same ↦ let e = eqb-true first.number number same in omega arith
  | inr other ↦ let later = rw other at found in let less = number_within number tunes tune later in omega arith
]

-- A TUNE MORE
-- the numbers still rise
rises-inserted : (new : Tune) (low : ℕ) (tunes : List Tune) → low < new.number → tune_at new.number tunes ≡ None → NumbersRiseFrom low tunes
    → NumbersRiseFrom low (tune_inserted new tunes)
rises-inserted new low [] less free rises = (less, tt)
rises-inserted new low (tune ∷ tunes) less free rises = elim (cases_Bool (ltb new.number tune.number)) [
  | inl before ↦ rw before (less, (ltb-true new.number tune.number before, rises.1))
  | inr behind ↦ elim (cases_Bool (eqb tune.number new.number)) [
    | inl same ↦ let taken = rw same at free in cc
    | inr other ↦
        let later = rw other at free in
        let from = ltb-false new.number tune.number behind in
        let apart = eqb-false tune.number new.number other in
        rw behind (rises.0, rises-inserted new tune.number tunes (omega arith) later rises.1)
  ]
]

-- the greatest number is the greater of two
greatest-inserted : (new : Tune) (tunes : List Tune) → greatest (tune_inserted new tunes) ≡ max new.number (greatest tunes)
greatest-inserted new [] = refl
greatest-inserted new (tune ∷ tunes) = elim (cases_Bool (ltb new.number tune.number)) [
  | inl before ↦ rw before refl
  | inr behind ↦ let later = greatest-inserted new tunes in rw behind (omega arith)
]

-- there is a tune more
length-inserted : (new : Tune) (tunes : List Tune) → length (tune_inserted new tunes) ≡ length tunes + 1
length-inserted new [] = refl
length-inserted new (tune ∷ tunes) = elim (cases_Bool (ltb new.number tune.number)) [
  | inl before ↦ rw before (omega arith)
  | inr behind ↦ let later = length-inserted new tunes in rw behind (omega arith)
]

-- and good tunes all
each-inserted : {layout : Layout} → (new : Tune) (tunes : List Tune) → IsTune layout new → AllByRecursion (IsTune layout) tunes
    → AllByRecursion (IsTune layout) (tune_inserted new tunes)
each-inserted new [] is each = (is, tt)
each-inserted new (tune ∷ tunes) is each = elim (cases_Bool (ltb new.number tune.number)) [
  | inl before ↦ rw before (is, each)
  | inr behind ↦ rw behind (each.0, each-inserted new tunes is each.1)
]

-- the tune that came is the tune of its number
tune_at-inserted_same : (new : Tune) (tunes : List Tune) → tune_at new.number tunes ≡ None → tune_at new.number (tune_inserted new tunes) ≡ Some new
tune_at-inserted_same new [] free = let own = eq-eqb new.number new.number refl in rw own refl
tune_at-inserted_same new (tune ∷ tunes) free = elim (cases_Bool (ltb new.number tune.number)) [
  | inl before ↦ let own = eq-eqb new.number new.number refl in rw (before, own) refl
  | inr behind ↦ elim (cases_Bool (eqb tune.number new.number)) [
    | inl same ↦ let taken = rw same at free in cc
    | inr other ↦ let later = rw other at free in rw (behind, other) (tune_at-inserted_same new tunes later)
  ]
]

-- and for any other number the tune is as it was
tune_at-inserted_other : (number : ℕ) (new : Tune) (tunes : List Tune) → new.number ≢ number → tune_at number (tune_inserted new tunes) ≡ tune_at number tunes
tune_at-inserted_other number new [] apart = rw (ne_eqb new.number number apart) refl
tune_at-inserted_other number new (tune ∷ tunes) apart = elim (cases_Bool (ltb new.number tune.number)) [
  | inl before ↦ rw (before, ne_eqb new.number number apart) refl
  | inr behind ↦ rw behind (ap (λ found. cond (eqb tune.number number) (Some tune) found) (tune_at-inserted_other number new tunes apart))
]

-- A TUNE LESS
-- there is one less, where it was there
pub length-without_one : (number : ℕ) (tunes : List Tune) (tune : Tune) → tune_at number tunes ≡ Some tune → length (without_tune number tunes) + 1
    ≡ length tunes
length-without_one number [] tune found = cc
length-without_one number (first ∷ tunes) tune found = elim (cases_Bool (eqb first.number number)) [
  | inl same ↦ rw same (omega arith)
  | inr other ↦ let later = rw other at found in let less = length-without_one number tunes tune later in rw other (omega arith)
]

-- the tune of a number is a good one
tune_at-is : {layout : Layout} → (number : ℕ) (tunes : List Tune) (tune : Tune) → AllByRecursion (IsTune layout) tunes → tune_at number tunes ≡ Some tune
    → IsTune layout tune
tune_at-is number [] tune each found = cc
tune_at-is {layout = layout} number (first ∷ tunes) tune each found = elim (cases_Bool (eqb first.number number)) [
  | inl same ↦ let it = rw same at found in let e : first ≡ tune = cc in subst (IsTune layout) e each.0
  | inr other ↦ let later = rw other at found in tune_at-is number tunes tune each.1 later
]

-- A TUNE UNDER ANOTHER NUMBER
-- the tunes without the one of a number have no other number that was free
still_free : (number to : ℕ) (tunes : List Tune) → number ≢ to → tune_at to tunes ≡ None → tune_at to (without_tune number tunes) ≡ None
still_free number to tunes apart free = tune_at-without_other to number tunes apart ∙ free

-- the tune that was found, under a number that is free, keeps the limits
moved_tune_keeps : {layout : Layout} → (tune : Tune) (to : ℕ) (tunes : List Tune) → IsTunes layout tunes → tune_at tune.number tunes ≡ Some tune
    → tune_at to tunes ≡ None
    → 0 < to → to ≤ greatest_number → IsTunes layout (moved_tune tune to tunes)
moved_tune_keeps {layout = layout} tune to tunes is found free above within =
    let rest : List Tune = without_tune tune.number tunes in
    let gone = still_free tune.number to tunes (free_apart tune.number to tunes tune found free) free in
    let it = tune_at-is tune.number tunes tune is.each found in
    let its : IsTune layout (under to tune) = record { revised = it.revised; revision = it.revision; text = it.text; fits = it.fits } in
    record {
      rises = rises-inserted (under to tune) 0 rest above gone (rises-without tune.number 0 tunes is.rises);
      numbers = omega (arith, greatest-inserted (under to tune) rest, greatest-without tune.number tunes, is.numbers, within);
      each = each-inserted (under to tune) rest its (each-without _ tune.number tunes is.each);
      count = omega (arith, length-inserted (under to tune) rest, length-without_one tune.number tunes tune found, is.count);
    }

-- a tune under a number that is free keeps the limits
pub state_after_move : {layout : Layout} → (number to : ℕ) (tunes : List Tune) → IsTunes layout tunes → tune_at to tunes ≡ None → 0 < to → to ≤ greatest_number
    → IsTunes layout (moved number to tunes)
state_after_move {layout = layout} number to tunes is free above within = by_found (tune_at number tunes) refl
  where
    by_found : (found : Option Tune) → tune_at number tunes ≡ found → IsTunes layout (moved_if to tunes found)
    by_found None e = is
    by_found (Some tune) e =
        let own : tune_at tune.number tunes ≡ Some tune = ap (λ n. tune_at n tunes) (tune_at-number number tunes tune e) ∙ e in
        moved_tune_keeps tune to tunes is own free above within

-- the tune of a number that is free, after a tune got it, is that tune
pub tune_at-moved_to : (number to : ℕ) (tunes : List Tune) (tune : Tune) → tune_at number tunes ≡ Some tune → tune_at to tunes ≡ None
    → tune_at to (moved number to tunes) ≡ Some (under to tune)
tune_at-moved_to number to tunes tune found free =
    let its = tune_at-number number tunes tune found in
    let apart : tune.number ≢ to = λ same. free_apart number to tunes tune found free (sym its ∙ same) in
    rw found (tune_at-inserted_same (under to tune) (without_tune tune.number tunes) (still_free tune.number to tunes apart free))

-- and the tune of a third number is as it was
pub tune_at-moved_other : (number to other : ℕ) (tunes : List Tune) → number ≢ other → to ≢ other → tune_at other (moved number to tunes) ≡ tune_at other tunes
tune_at-moved_other number to other tunes apart apart_to = by_found (tune_at number tunes) refl
  where
    by_found : (found : Option Tune) → tune_at number tunes ≡ found → tune_at other (moved_if to tunes found) ≡ tune_at other tunes
    by_found None e = refl
    by_found (Some tune) e =
        let ne : tune.number ≢ other = λ same. apart (sym (tune_at-number number tunes tune e) ∙ same) in
        tune_at-inserted_other other (under to tune) (without_tune tune.number tunes) apart_to ∙ tune_at-without_other other tune.number tunes ne
