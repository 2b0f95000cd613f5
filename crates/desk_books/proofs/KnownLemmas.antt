-- Texts that become known one after another, and what is chosen by them.
use Rattle.std.proofs.Common.{◌≡◌, ℕ, ◌+◌, ◌<◌, ◌≤◌, List, [], ◌∷◌, ◌++◌, ◌⊎◌, inl, inr, Some, None, Ok, length, take, get_or, ap, sym, ◌∙◌, subst}
use Rattle.std.specs.Prelude.{Option, IsTrue}
use Rattle.std.proofs.lemmas.List.{take_more, take_all}
use Rattle.abc_fields.specs.declared.book.BookFault.{BookFault}
use Rattle.abc_fields.specs.declared.book.BookFault.TheVariants as book_fault
use Rattle.tune_store.specs.State.{State, tune_at}
use Rattle.tune_store.specs.TuneSteps.{refusal_of}
use Rattle.tune_store.specs.declared.command.Refusal.{Refusal}
use Rattle.tune_store.specs.Limits.{longest_text}
use Rattle.tune_store.specs.declared.layout.Layout.{Layout}
use Rattle.tune_store.specs.declared.tune.Tune.{Tune}
use Rattle.tune_asking.specs.AskingCalls.{tune_told, tune_or}
use Rattle.chosen_books.specs.ChosenTunes.{GoIn, chosen_tunes, stays_whole, sums_then, texts_of, refusal}
use Rattle.chosen_books.specs.KnownTexts.{with_text_sum}
use Rattle.desk_terms.specs.declared.adding.Adding.{Adding}
use Rattle.desk_books.specs.ChosenParts.{Chooses, IsNotChosen}
use Rattle.desk_books.specs.KnownSums.{KnowsTextsAt}

-- a tune that is told is there
told_some : (number : ℕ) (there : Option Tune) (tune : Tune) → tune_or number there ≡ Ok tune → there ≡ Some tune
told_some number None tune e = absurd cc
told_some number (Some other) tune e = (let same : other ≡ tune = cc in ap Some same)

-- one text more
knows_more : (numbers : List ℕ) (number : ℕ) (was mid : List (List ℕ)) (state : State) (tune : Tune) → KnowsTextsAt numbers was state mid
    → tune_told number state ≡ Ok tune → KnowsTextsAt (numbers ++ number ∷ []) was state (with_text_sum mid tune.text)
knows_more [] number was mid state tune h told =
    (tune, told_some number (tune_at number state.tunes) tune told, ap (λ sums. with_text_sum sums tune.text) h)
knows_more (first ∷ numbers) number was mid state tune h told =
    (h.0, h.1, knows_more numbers number (with_text_sum was h.0.text) mid state tune h.2 told)

-- the first numbers, one by one
pub knows_next : (numbers : List ℕ) (i number : ℕ) (was mid now : List (List ℕ)) (state : State) (tune : Tune) (text : List ℕ) → i < length numbers
    → number ≡ get_or numbers i 0 → text ≡ tune.text → now ≡ with_text_sum mid text → KnowsTextsAt (take i numbers) was state mid
    → tune_told number state ≡ Ok tune → KnowsTextsAt (take (i + 1) numbers) was state now
knows_next numbers i number was mid now state tune text lt at same is h told =
    let longer : take (i + 1) numbers ≡ take i numbers ++ number ∷ [] = take_more numbers i 0 lt ∙ ap (λ n. take i numbers ++ n ∷ []) (sym at) in
    let sums : now ≡ with_text_sum mid tune.text = is ∙ ap (with_text_sum mid) same in
    subst (λ l. KnowsTextsAt l was state now) (sym longer)
    (subst (KnowsTextsAt (take i numbers ++ number ∷ []) was state) (sym sums) (knows_more (take i numbers) number was mid state tune h told))

-- all of them
pub knows_all : (numbers : List ℕ) (i : ℕ) (was now : List (List ℕ)) (state : State) → length numbers ≤ i
    → KnowsTextsAt (take i numbers) was state now → KnowsTextsAt numbers was state now
knows_all numbers i was now state le h = subst (λ l. KnowsTextsAt l was state now) (take_all i numbers le) h

-- what is chosen where a text may have as many bytes as a layout allows
pub chooses : (how : Adding) (layout : Layout) (book : List ℕ) (was now parts : List (List ℕ)) (longest : ℕ) → longest ≡ longest_text layout
    → refusal how longest book ≡ None → GoIn longest parts (texts_of (chosen_tunes how longest was book))
    → (IsTrue (stays_whole how book) → parts ≡ book ∷ []) → now ≡ sums_then how longest was book
    → Chooses how layout book (record { was = was; now = now }) parts
chooses how layout book was now parts longest e taken go_in whole sums = record {
  taken = subst (λ n. refusal how n book ≡ None) e taken;
  go_in = subst (λ n. GoIn n parts (texts_of (chosen_tunes how n was book))) e go_in;
  whole = whole;
  sums = subst (λ n. now ≡ sums_then how n was book) e sums;
}

-- nothing is chosen, for this reason
pub not_chosen : {X : Type 0} (how : Adding) (layout : Layout) (book : List ℕ) (longest : ℕ) (fault : BookFault) (why : Refusal)
    → longest ≡ longest_text layout → why ≡ refusal_of fault → (fault ≡ book_fault.OutOfMemory) ⊎ ((refusal how longest book ≡ Some fault) × X)
    → IsNotChosen how layout book why
not_chosen how layout book longest fault why e is (inl none) = inl (is ∙ ap refusal_of none)
not_chosen how layout book longest fault why e is (inr (refused, same)) = inr (fault, is, subst (λ n. refusal how n book ≡ Some fault) e refused)
