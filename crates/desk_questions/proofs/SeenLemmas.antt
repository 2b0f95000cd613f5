-- The tunes of numbers, seen one after another.
use Rattle.std.proofs.Common.{◌≡◌, ℕ, ◌+◌, ◌<◌, ◌≤◌, List, [], ◌∷◌, ◌++◌, length, take, get_or, Ok, refl, sym, ap, ◌∙◌}
use Rattle.std.proofs.lemmas.List.{take_more, take_all}
use Rattle.tune_store.specs.State.{State}
use Rattle.tune_store.specs.declared.tune.Tune.{Tune}
use Rattle.desk_lists.specs.declared.twins.TwinRow.{TwinRow}
use Rattle.desk_questions.specs.SameTunes.{twins}
use Rattle.desk_questions.specs.Told.{tunes_at}
use Rattle.tune_asking.specs.AskingCalls.{tune_told}
use Rattle.desk_questions.specs.Inside.SeenTunes.{HasSeen, AreSeen, AreTwinsAt}
use Rattle.desk_questions.specs.declared.same_tunes.SeenTunes.{SeenTunes}
use Rattle.desk_questions.proofs.TuneLemmas.{at_more}

-- none
pub seen_none : (state : State) (seen : SeenTunes) → HasSeen [] seen → AreSeen [] state seen
seen_none state seen have = record { tunes = []; at = refl; have = have }

-- one number more
pub seen_next : (numbers : List ℕ) (i number : ℕ) (state : State) (old new : SeenTunes) (tune : Tune) → i < length numbers → number ≡ get_or numbers i 0
    → AreSeen (take i numbers) state old → tune_told number state ≡ Ok tune
    → ((tunes : List Tune) → HasSeen tunes old → HasSeen (tunes ++ tune ∷ []) new) → AreSeen (take (i + 1) numbers) state new
seen_next numbers i number state old new tune l at was has more = record {
  tunes = was.tunes ++ tune ∷ [];
  at = ap (λ some. tunes_at some state.tunes) (take_more numbers i 0 l ∙ ap (λ n. take i numbers ++ n ∷ []) (sym at))
      ∙ at_more (take i numbers) number state.tunes was.tunes tune was.at has;
  have = more was.tunes was.have;
}

-- all of them
pub seen_all : (numbers : List ℕ) (i : ℕ) (state : State) (seen : SeenTunes) (rows : List TwinRow) → length numbers ≤ i → AreSeen (take i numbers) state seen
    → ((tunes : List Tune) → HasSeen tunes seen → rows ≡ twins tunes) → AreTwinsAt numbers state rows
seen_all numbers i state seen rows le was are = record {
  tunes = was.tunes;
  at = ap (λ some. tunes_at some state.tunes) (sym (take_all i numbers le)) ∙ was.at;
  are = are was.tunes was.have;
}
