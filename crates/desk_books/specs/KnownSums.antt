-- What is known of the texts that an archive has.
use Rattle.std.specs.Prelude.{◌≡◌, ℕ, Bool, true, false, List, [], ◌∷◌, ⊤, Some}
use Rattle.tune_store.specs.State.{State, tune_at}
use Rattle.tune_store.specs.Labels.{labels_of, numbers_of}
use Rattle.tune_store.specs.declared.catalog.Label.{Label}
use Rattle.tune_store.specs.declared.tune.Tune.{Tune}
use Rattle.tune_asking.specs.AskingCalls.{Meaning}
use Rattle.chosen_books.specs.KnownTexts.{with_text_sum}

-- The texts of the tunes of these numbers came to what was known, and this is known then.
abbrev pub KnowsTextsAt : List ℕ → List (List ℕ) → State → List (List ℕ) → Type 0
KnowsTextsAt [] was state now = now ≡ was
KnowsTextsAt (number ∷ numbers) was state now = (tune : Tune)
    × (tune_at number state.tunes ≡ Some tune)
    × KnowsTextsAt numbers (with_text_sum was tune.text) state now

-- Each text of a state is known, in the order of the numbers.
abbrev pub KnowsEach : State → List (List ℕ) → Type 0
KnowsEach state known = KnowsTextsAt (numbers_of (labels_of state.tunes)) [] state known

-- So it is where only new tunes are taken in; else no text is known.
abbrev pub KnowsTexts : Bool → State → List (List ℕ) → Type 0
KnowsTexts true state known = KnowsEach state known
KnowsTexts false state known = known ≡ []

-- what a store with these labels tells of its texts
abbrev pub texts_told : Bool → List Label → Meaning (List (List ℕ))
texts_told only_new labels = record {
  good = λ state known. labels ≡ labels_of state.tunes → KnowsTexts only_new state known;
  refused = λ state refusal. ⊤;
}

-- and the tunes of these numbers, where this was known before
abbrev pub texts_put : List ℕ → List (List ℕ) → List (List ℕ) → Meaning ⊤
texts_put numbers was now = record {
  good = λ state done. KnowsTextsAt numbers was state now;
  refused = λ state refusal. ⊤;
}
