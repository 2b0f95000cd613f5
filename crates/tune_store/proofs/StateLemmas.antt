-- What a command makes of a list of tunes by rising number, and its limits.
use Rattle.std.proofs.Common.{◌≡◌, ℕ, zero, suc, ◌+◌, ◌<◌, ◌≤◌, max, Bool, true, false, not, cond, eqb, ltb, List, [], ◌∷◌, ◌++◌, length, get_or}
use Rattle.std.proofs.Common.{Option, Some, None, Ok, Err, refl, ap, sym, subst, ◌∙◌, arith, add-zero, inl, inr, length-append}
use Rattle.std.specs.List.{AllByRecursion}
use Rattle.std.proofs.lemmas.Bool.{eqb-true, ltb-true, cases_Bool}
use Rattle.abc_fields.specs.Tunes.{IsTextWithin}
use Rattle.tune_store.specs.State.{NumbersRiseFrom, greatest, IsTune, IsTunes}
use Rattle.tune_store.specs.TuneSteps.{TunesOutcome, numbered, with_texts, with_tune, without_tune, revised, replace_tune}
use Rattle.tune_store.specs.declared.tune.Tune.{Tune}
use Rattle.tune_store.specs.Limits.{longest_text, most_tunes, greatest_number, greatest_revision}
use Rattle.tune_store.specs.declared.command.Reply.TheVariants.{Replaced}
use Rattle.tune_store.specs.declared.command.Refusal.TheVariants.{Stale, Worn}
use Rattle.tune_store.specs.declared.layout.Layout.{Layout}

-- RISING NUMBERS
-- the last number is the greatest
pub greatest_last : (low : ℕ) (tunes : List Tune) (n : ℕ) (d : Tune) → NumbersRiseFrom low tunes → n + 1 ≡ length tunes → greatest tunes
    ≡ (get_or tunes n d).number
greatest_last low [] n d rises l = absurd (omega arith)
greatest_last low (tune ∷ []) zero d rises l = omega arith
greatest_last low (tune ∷ []) (suc n) d rises l = absurd (omega arith)
greatest_last low (tune ∷ next ∷ tunes) zero d rises l = absurd (omega arith)
greatest_last low (tune ∷ next ∷ tunes) (suc n) d rises l =
    let later : greatest (next ∷ tunes) ≡ (get_or (next ∷ tunes) n d).number = greatest_last tune.number (next ∷ tunes) n d rises.1 (omega arith) in
    let top : max tune.number (greatest (next ∷ tunes)) ≡ greatest (next ∷ tunes) = omega arith in
    top ∙ later

-- the greatest number of two lists is the greater of theirs
pub greatest-append : (tunes more : List Tune) → greatest (tunes ++ more) ≡ max (greatest tunes) (greatest more)
greatest-append [] more = omega arith
greatest-append (tune ∷ tunes) more = let e = greatest-append tunes more in omega arith

-- one list of rising numbers after another
rises-append : (low : ℕ) (tunes more : List Tune) → NumbersRiseFrom low tunes → NumbersRiseFrom (max low (greatest tunes)) more
    → NumbersRiseFrom low (tunes ++ more)
rises-append low [] more rises later =
    let P : ℕ → Type 0 = λ n. NumbersRiseFrom n more in let same : max low 0 ≡ low = omega arith in subst P same later
rises-append low (tune ∷ tunes) more rises later =
    let P : ℕ → Type 0 = λ n. NumbersRiseFrom n more in
    let first = rises.0 in
    let same : max low (max tune.number (greatest tunes)) ≡ max tune.number (greatest tunes) = omega arith in
    (rises.0, rises-append tune.number tunes more rises.1 (subst P same later))

-- what holds of the tunes of two lists holds of all
each-append : (layout : Layout) (tunes more : List Tune) → AllByRecursion (IsTune layout) tunes → AllByRecursion (IsTune layout) more
    → AllByRecursion (IsTune layout) (tunes ++ more)
each-append layout [] more each later = later
each-append layout (tune ∷ tunes) more each later = (each.0, each-append layout tunes more each.1 later)

-- NEW TUNES
-- one text more makes one tune more, with the next number
numbered-push : (number : ℕ) (texts : List (List ℕ)) (text : List ℕ)
    → numbered number (texts ++ text ∷ []) ≡ numbered number texts ++ record { number = number + length texts; revision = 1; text = text } ∷ []
numbered-push number [] text = rw add-zero refl
numbered-push number (first ∷ texts) text =
    let place : number + 1 + length texts ≡ number + length (first ∷ texts) = omega arith in
    ap (λ tunes. record { number = number; revision = 1; text = first } ∷ tunes)
    (numbered-push (number + 1) texts text ∙ ap (λ n. numbered (number + 1) texts ++ record { number = n; revision = 1; text = text } ∷ []) place)

-- the next of new tunes goes to their end
pub numbered_next : (first number : ℕ) (texts : List (List ℕ)) (text : List ℕ) → number ≡ first + length texts
    → numbered first texts ++ record { number = number; revision = 1; text = text } ∷ [] ≡ numbered first (texts ++ text ∷ [])
numbered_next first number texts text e =
    sym (numbered-push first texts text ∙ ap (λ n. numbered first texts ++ record { number = n; revision = 1; text = text } ∷ []) (sym e))

-- there are as many new tunes as texts
pub length-numbered : (number : ℕ) (texts : List (List ℕ)) → length (numbered number texts) ≡ length texts
length-numbered number [] = refl
length-numbered number (text ∷ texts) = let e = length-numbered (number + 1) texts in omega arith

-- the last of new numbers is the greatest
pub greatest-numbered : (number : ℕ) (text : List ℕ) (texts : List (List ℕ)) → greatest (numbered number (text ∷ texts)) ≡ number + length texts
greatest-numbered number text [] = omega arith
greatest-numbered number text (next ∷ texts) = let e = greatest-numbered (number + 1) next texts in omega arith

-- new numbers rise
rises-numbered : (low number : ℕ) (texts : List (List ℕ)) → low < number → NumbersRiseFrom low (numbered number texts)
rises-numbered low number [] l = tt
rises-numbered low number (text ∷ texts) l = (l, rises-numbered number (number + 1) texts (omega arith))

-- new tunes of good texts are good tunes
each-numbered : (layout : Layout) (number : ℕ) (texts : List (List ℕ)) → AllByRecursion (IsTextWithin (longest_text layout)) texts
    → AllByRecursion (IsTune layout) (numbered number texts)
each-numbered layout number [] within = tt
each-numbered layout number (text ∷ texts) within =
    let new : IsTune layout record { number = number; revision = 1; text = text } =
    record { revised = omega arith; revision = omega arith; text = within.0.tune_text; fits = within.0.fits } in
    (new, each-numbered layout (number + 1) texts within.1)

-- new tunes of good texts keep the limits, where there is room for them
pub state_after_import : {layout : Layout} → (tunes : List Tune) (texts : List (List ℕ)) → IsTunes layout tunes
    → AllByRecursion (IsTextWithin (longest_text layout)) texts
    → length tunes + length texts ≤ (most_tunes layout) → greatest tunes + length texts ≤ greatest_number
    → IsTunes layout (with_texts tunes texts)
state_after_import tunes texts is within room numbers =
    let P : ℕ → Type 0 = λ n. NumbersRiseFrom n (numbered (greatest tunes + 1) texts) in
    let low : greatest tunes ≡ max 0 (greatest tunes) = omega arith in
    let top = new_numbers_top tunes texts numbers is.numbers in
    record {
      rises = rises-append 0 tunes _ is.rises (subst P low (rises-numbered (greatest tunes) (greatest tunes + 1) texts (omega arith)));
      numbers = top;
      each = each-append _ tunes _ is.each (each-numbered _ (greatest tunes + 1) texts within);
      count = omega (arith, length-append tunes (numbered (greatest tunes + 1) texts), length-numbered (greatest tunes + 1) texts);
    }
  where
    new_numbers_top : (tunes : List Tune) (texts : List (List ℕ)) → greatest tunes + length texts ≤ greatest_number → greatest tunes ≤ greatest_number
        → greatest (tunes ++ numbered (greatest tunes + 1) texts) ≤ greatest_number
    new_numbers_top tunes [] numbers h = let e = greatest-append tunes [] in omega arith
    new_numbers_top tunes (text ∷ texts) numbers h =
        let e = greatest-append tunes (numbered (greatest tunes + 1) (text ∷ texts)) in
        let f = greatest-numbered (greatest tunes + 1) text texts in
        omega arith

-- A TUNE IN THE PLACE OF ANOTHER
-- the numbers still rise
rises-with_tune : (new : Tune) (low : ℕ) (tunes : List Tune) → NumbersRiseFrom low tunes → NumbersRiseFrom low (with_tune new tunes)
rises-with_tune new low [] rises = tt
rises-with_tune new low (tune ∷ tunes) rises = elim (cases_Bool (eqb tune.number new.number)) [
  | inl same ↦
      let e : tune.number ≡ new.number = eqb-true tune.number new.number same in
      let P : ℕ → Type 0 = λ n. (low < n) × NumbersRiseFrom n tunes in
      rw same (subst P e rises)
  | inr other ↦ rw other (rises.0, rises-with_tune new tune.number tunes rises.1)
]

-- the greatest number stays
greatest-with_tune : (new : Tune) (tunes : List Tune) → greatest (with_tune new tunes) ≡ greatest tunes
greatest-with_tune new [] = refl
greatest-with_tune new (tune ∷ tunes) = elim (cases_Bool (eqb tune.number new.number)) [
  | inl same ↦ rw same (ap (λ n. max n (greatest tunes)) (sym (eqb-true tune.number new.number same)))
  | inr other ↦ rw other (ap (λ n. max tune.number n) (greatest-with_tune new tunes))
]

-- there are as many tunes as before
length-with_tune : (new : Tune) (tunes : List Tune) → length (with_tune new tunes) ≡ length tunes
length-with_tune new [] = refl
length-with_tune new (tune ∷ tunes) = elim (cases_Bool (eqb tune.number new.number)) [
  | inl same ↦ rw same refl
  | inr other ↦ rw other (ap (λ n. suc n) (length-with_tune new tunes))
]

-- and good tunes all
each-with_tune : {layout : Layout} → (new : Tune) (tunes : List Tune) → IsTune layout new → AllByRecursion (IsTune layout) tunes
    → AllByRecursion (IsTune layout) (with_tune new tunes)
each-with_tune new [] is each = tt
each-with_tune new (tune ∷ tunes) is each = elim (cases_Bool (eqb tune.number new.number)) [
  | inl same ↦ rw same (is, each.1)
  | inr other ↦ rw other (each.0, each-with_tune new tunes is each.1)
]

-- a good tune in the place of one keeps the limits
pub state_after_replace : {layout : Layout} → (new : Tune) (tunes : List Tune) → IsTune layout new → IsTunes layout tunes → IsTunes layout (with_tune new tunes)
state_after_replace new tunes is state = record {
  rises = rises-with_tune new 0 tunes state.rises;
  numbers = omega (arith, greatest-with_tune new tunes, state.numbers);
  each = each-with_tune new tunes is state.each;
  count = omega (arith, length-with_tune new tunes, state.count);
}

-- a good text in the place of a tune's, which has not the greatest revision, makes a good tune
pub revised_is_tune : {layout : Layout} → (tune : Tune) (text : List ℕ) → IsTextWithin (longest_text layout) text → tune.revision < greatest_revision
    → IsTune layout (revised tune text)
revised_is_tune tune text within less = record { revised = omega arith; revision = omega arith; text = within.tune_text; fits = within.fits }

-- an outcome whose tunes keep the limits
abbrev pub KeepsLimits : Layout → TunesOutcome → Type 0
KeepsLimits layout outcome = IsTunes layout outcome.0

-- of a replacement's two tests the second lets only a tune through that has not the greatest revision
by_tests : {layout : Layout} → (tune : Tune) (tunes : List Tune) (number : ℕ) (text : List ℕ) (stale young : Bool) → IsTextWithin (longest_text layout) text
    → ltb tune.revision greatest_revision ≡ young → IsTunes layout tunes
    → KeepsLimits layout (cond stale (tunes, Err (Stale tune.revision))
    (cond (not young) (tunes, Err Worn)
    (with_tune (revised tune text) tunes, Ok (Replaced number (tune.revision + 1)))))
by_tests tune tunes number text true young within y state = state
by_tests tune tunes number text false false within y state = state
by_tests tune tunes number text false true within y state =
    state_after_replace (revised tune text) tunes (revised_is_tune tune text within (ltb-true tune.revision greatest_revision y)) state

-- a replacement keeps the limits, where its text is good
pub state_after_text : {layout : Layout} → (tunes : List Tune) (number revision : ℕ) (text : List ℕ) (found : Option Tune) → IsTunes layout tunes
    → IsTextWithin (longest_text layout) text
    → KeepsLimits layout (replace_tune tunes number revision text found)
state_after_text tunes number revision text None state within = state
state_after_text tunes number revision text (Some tune) state within =
    by_tests tune tunes number text (not (eqb tune.revision revision)) (ltb tune.revision greatest_revision) within refl state

-- A TUNE LESS
-- numbers above one are above a lower one
rises-lower : (low high : ℕ) (tunes : List Tune) → low ≤ high → NumbersRiseFrom high tunes → NumbersRiseFrom low tunes
rises-lower low high [] le rises = tt
rises-lower low high (tune ∷ tunes) le rises = let first = rises.0 in (omega arith, rises.1)

-- the numbers still rise
pub rises-without : (number low : ℕ) (tunes : List Tune) → NumbersRiseFrom low tunes → NumbersRiseFrom low (without_tune number tunes)
rises-without number low [] rises = tt
rises-without number low (tune ∷ tunes) rises = elim (cases_Bool (eqb tune.number number)) [
  | inl same ↦ rw same (let first = rises.0 in rises-lower low tune.number tunes (omega arith) rises.1)
  | inr other ↦ rw other (rises.0, rises-without number tune.number tunes rises.1)
]

-- the greatest number does not rise
pub greatest-without : (number : ℕ) (tunes : List Tune) → greatest (without_tune number tunes) ≤ greatest tunes
greatest-without number [] = omega arith
greatest-without number (tune ∷ tunes) = elim (cases_Bool (eqb tune.number number)) [
  | inl same ↦ rw same (omega arith)
  | inr other ↦ let later = greatest-without number tunes in rw other (omega arith)
]

-- there are no more tunes than before
length-without : (number : ℕ) (tunes : List Tune) → length (without_tune number tunes) ≤ length tunes
length-without number [] = omega arith
length-without number (tune ∷ tunes) = elim (cases_Bool (eqb tune.number number)) [
  | inl same ↦ rw same (omega arith)
  | inr other ↦ let later = length-without number tunes in rw other (omega arith)
]

-- and good tunes all
pub each-without : (layout : Layout) (number : ℕ) (tunes : List Tune) → AllByRecursion (IsTune layout) tunes
    → AllByRecursion (IsTune layout) (without_tune number tunes)
each-without layout number [] each = tt
each-without layout number (tune ∷ tunes) each = elim (cases_Bool (eqb tune.number number)) [
  | inl same ↦ rw same each.1
  | inr other ↦ rw other (each.0, each-without layout number tunes each.1)
]

-- a tune less keeps the limits
pub state_after_delete : {layout : Layout} → (number : ℕ) (tunes : List Tune) → IsTunes layout tunes → IsTunes layout (without_tune number tunes)
state_after_delete number tunes state = record {
  rises = rises-without number 0 tunes state.rises;
  numbers = omega (arith, greatest-without number tunes, state.numbers);
  each = each-without _ number tunes state.each;
  count = omega (arith, length-without number tunes, state.count);
}
