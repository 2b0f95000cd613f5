-- Records with one more entry.
use Rattle.std.proofs.Common.{◌≡◌, ℕ, ◌≤◌, List, [], ◌∷◌, ◌++◌, length, sym, ap, ◌∙◌, arith, inl, inr, ◌⊎◌, length-append}
use Rattle.std.proofs.lemmas.Bool.{cases_lt}
use Rattle.std.proofs.lemmas.List.{get_or_append_left, get_or_push}
use Rattle.tune_store.specs.State.{State, IsState}
use Rattle.tune_store.specs.StoreStops.{Among, StandsForOne}
use Rattle.tune_store.proofs.StopLemmas.{stands_among}
use Rattle.test_stores.specs.Record.{LeftSince, IsOfCount, EndsAtCount, IsRecorded, last_place}

-- RECORDS
-- a record ends at a state after an entry of how many tunes it has
ends_push : (entries : List ℕ) (number : ℕ) (state : State) → length state.tunes ≡ number → EndsAtCount (entries ++ number ∷ []) state
ends_push entries number state e = get_or_push entries number 0 _ (omega (arith, length-append entries (number ∷ []))) ∙ sym e

-- a file of a record with one more entry is one of the record, or of the entry
left_push : (entries : List ℕ) (number since : ℕ) (file : List ℕ) → LeftSince (entries ++ number ∷ []) since file
    → LeftSince entries since file ⊎ (file ≡ number ∷ [])
left_push entries number since file left = elim (cases_lt left.place (length entries)) [
  | inl before ↦
      let same = get_or_append_left entries (number ∷ []) 0 left.place before in
      inl (record { place = left.place; from = left.from; within = before; entry = left.entry ∙ ap (λ entry. entry ∷ []) same })
  | inr after ↦
      let within = left.within in
      let last : length entries ≡ left.place = omega (arith, length-append entries (number ∷ [])) in
      inr (left.entry ∙ ap (λ entry. entry ∷ []) (get_or_push entries number 0 left.place last))
]

-- a record with more entries has the files that it had
left_before_push : (entries more : List ℕ) (since : ℕ) (file : List ℕ) → LeftSince entries since file → LeftSince (entries ++ more) since file
left_before_push entries more since file left =
    let within = left.within in
    record {
      place = left.place;
      from = left.from;
      within = omega (arith, length-append entries more);
      entry = left.entry ∙ ap (λ entry. entry ∷ []) (sym (get_or_append_left entries more 0 left.place left.within));
    }

-- what a record owes where its store goes from a state to another by these
pub record Goes (entries later : List ℕ) (old new : State) (states : List State) : Type 0 where
  pub reaches : Among new (old ∷ states)
  pub stays_sound : IsRecorded entries old → IsRecorded later new
  pub keeps : (since : ℕ) (file : List ℕ) → LeftSince entries since file → LeftSince later since file
  pub is_later : last_place entries ≤ last_place later
  pub leaves : (since : ℕ) (file : List ℕ) → LeftSince later since file → LeftSince entries since file ⊎ StandsForOne IsOfCount (old ∷ states) file

-- a record with how many tunes there are as one more entry
pub pushes : (entries later : List ℕ) (old new : State) (states : List State) (number : ℕ) → Among new (old ∷ states)
    → (IsState old → IsState new) → length new.tunes ≡ number
    → later ≡ entries ++ number ∷ [] → Goes entries later old new states
pushes entries later old new states number among limits e pushed = rw pushed (record {
  reaches = among;
  stays_sound = λ sound. record { ends = ends_push entries number new e; within = limits sound.within };
  keeps = left_before_push entries (number ∷ []);
  is_later = omega (arith, length-append entries (number ∷ []));
  leaves = λ since file left. elim (left_push entries number since file left) [
    | inl before ↦ inl before
    | inr one ↦ inr (stands_among IsOfCount new (old ∷ states) file among (one ∙ ap (λ entry. entry ∷ []) (sym e)))
  ];
})
