-- What is found by one query more, or by one condition more.
use Rattle.std.proofs.Common.{◌≡◌, ℕ, ◌+◌, ◌<◌, ◌≤◌, Bool, true, false, cond, not, ◌&&◌, ◌||◌, List, [], ◌∷◌, ◌++◌, length, map, take, drop, get_or}
use Rattle.std.proofs.Common.{Result, Ok, Err, refl, sym, ap, ◌∙◌, subst, arith, Some, None}
use Rattle.std.specs.Prelude.{filter, MatchResult, ◌==◌}
use Rattle.std.specs.List.{list_any, list_all, AllByRecursion}
use Rattle.std.specs.List.Sorted.{IsNonDecreasing, IsPermutation}
use Rattle.std.proofs.lemmas.List.Folds.{list_any-append, list_any_more, list_all_more, list_any_at}
use Rattle.std.proofs.lemmas.List.Sorted.{list_any-IsPermutation}
use Rattle.tune_queries.specs.Queries.{matches, is_bad}
use Rattle.tune_queries.specs.declared.queries.Query.{Query}
use Rattle.std.proofs.lemmas.List.{take_more, get_or-map, length-map}
use Rattle.tune_store.specs.Labels.{labels_of, numbers_of, LabelsRise}
use Rattle.tune_store.specs.Limits.{notes_of}
use Rattle.tune_store.specs.Questions.{row_of, titled}
use Rattle.tune_store.specs.State.{State, NumbersRiseFrom}
use Rattle.tune_store.specs.declared.catalog.Label.{Label}
use Rattle.tune_store.specs.declared.tune.Tune.{Tune}
use Rattle.tune_store.specs.declared.index_rows.IndexRow.{IndexRow}
use Rattle.desk_questions.specs.Conditions.{gives, asks_nothing, has_no_words, queries_of, is_query_too_long}
use Rattle.desk_questions.specs.Told.{found_by_all}
use Rattle.desk_terms.specs.declared.condition.Condition.{Condition}
use Rattle.desk_terms.specs.declared.condition.Condition.TheVariants.{Title, Within, Rhythm, Key, Notes}
use Rattle.desk_questions.specs.Inside.SoughtWords.{looks_at_titles}
use Rattle.abc_fields.specs.Fields.{titles_of}
use Rattle.desk_questions.specs.Inside.QuestionCalls.{has_number, passes, AddsPassing, has_some_title, has_row_title, AreFoundBySome, AreNumbersGiven, AreFound}
use Rattle.desk_questions.proofs.NumberLemmas.{among_more, among_passed, among_titled, passes_or, passes_none, passes_same, any_same, found_more, filter_same}

-- NUMBERS THAT ARE ADDED
-- those of the rows that a query finds
pub adds_found : (old new : List ℕ) (test : List ℕ → Bool) (tunes : List Tune)
    → new ≡ old ++ map (λ (row : IndexRow). row.number) (map row_of (filter (λ (tune : Tune). test tune.text) tunes)) → AddsPassing old new test tunes
adds_found old new test tunes e number =
    ap (λ numbers. has_number numbers number) e ∙ among_more old _ number ∙ ap (λ b. has_number old number || b) (among_passed test tunes number)

-- those of the rows of an index that have such a title
pub adds_titled : (condition : Condition) (old new : List ℕ) (tunes : List Tune)
    → new ≡ old ++ map (λ (row : IndexRow). row.number) (filter (has_row_title condition) (titled tunes)) → AddsPassing old new (has_some_title condition) tunes
adds_titled condition old new tunes e number =
    ap (λ numbers. has_number numbers number) e ∙ among_more old _ number ∙ ap (λ b. has_number old number || b) (among_titled condition tunes number)

any_no : {X : Type 0} (xs : List X) → list_any (λ x. false) xs ≡ false
any_no [] = refl
any_no (x ∷ xs) = any_no xs

pub no_titles : (condition : Condition) → looks_at_titles condition ≡ false → (text : List ℕ) → has_some_title condition text ≡ false
no_titles (Title words) e text = absurd cc
no_titles (Within words) e text = absurd cc
no_titles (Rhythm rhythm) e text = any_no (titles_of text)
no_titles (Key key) e text = any_no (titles_of text)
no_titles (Notes notes key) e text = any_no (titles_of text)

-- none
pub adds_none : (numbers : List ℕ) (test : List ℕ → Bool) (tunes : List Tune) → ((text : List ℕ) → test text ≡ false) → AddsPassing numbers numbers test tunes
adds_none numbers test tunes none number =
    sym (ap (λ b. has_number numbers number || b) (passes_same test (λ text. false) tunes number none ∙ passes_none tunes number) ∙ or_false
    (has_number numbers number))
  where
    or_false : (b : Bool) → (b || false) ≡ b
    or_false true = refl
    or_false false = refl

-- QUERIES
pub found_by_no : (state : State) (numbers : List ℕ) → numbers ≡ [] → AreFoundBySome [] state numbers
found_by_no state numbers e = record {
  ask = refl;
  are = λ number. ap (λ some. has_number some number) e ∙ sym (passes_none state.tunes number);
}

-- one query more
pub found_by_more : (queries : List Query) (query : Query) (state : State) (old new : List ℕ) → AreFoundBySome queries state old
    → is_bad query ≡ false → AddsPassing old new (matches (notes_of state.layout) query) state.tunes → AreFoundBySome (queries ++ query ∷ []) state new
found_by_more queries query state old new was good adds =
    let notes = notes_of state.layout in
    let one : List ℕ → Bool = λ text. list_any (λ query. matches notes query text) queries in
    let last : List ℕ → Bool = λ text. matches notes query text in
    record {
      ask = list_any-append is_bad queries (query ∷ []) ∙ rw (was.ask, good) refl;
      are = λ number. adds number ∙ rw (was.are number) (sym (passes_or one last state.tunes number))
          ∙ passes_same _ _ state.tunes number (λ text. sym
          (list_any-append (λ query. matches notes query text) queries (query ∷ []) ∙ ap (λ b. one text || b) (or_false (last text))));
    }
  where
    or_false : (b : Bool) → (b || false) ≡ b
    or_false true = refl
    or_false false = refl

-- a bad one
pub bad_among : (queries : List Query) (query : Query) (rest : List Query) → is_bad query ≡ true → list_any is_bad (queries ++ query ∷ rest) ≡ true
bad_among [] query rest bad = rw bad refl
bad_among (first ∷ queries) query rest bad = rw (bad_among queries query rest bad) (or_true (is_bad first))
  where
    or_true : (b : Bool) → (b || true) ≡ true
    or_true true = refl
    or_true false = refl

-- A CONDITION
-- either test of each
any_either : {X : Type 0} (p q : X → Bool) (xs : List X) → list_any (λ x. p x || q x) xs ≡ (list_any p xs || list_any q xs)
any_either p q [] = refl
any_either p q (x ∷ xs) = swap (p x) (q x) (list_any p xs) (list_any q xs) (any_either p q xs)
  where
    swap : (a b c d : Bool) {u : Bool} → u ≡ (c || d) → ((a || b) || u) ≡ ((a || c) || (b || d))
    swap true b c d h = refl
    swap false true true d h = refl
    swap false true false d h = refl
    swap false false c d h = h

-- what a condition asks for, by the parts of the code
pub asks_something : (condition : Condition) → has_no_words condition ≡ false → list_any is_query_too_long (queries_of condition) ≡ false
    → list_any is_bad (queries_of condition) ≡ false → asks_nothing condition ≡ false
asks_something condition words long bad = rw words (any_either is_query_too_long is_bad (queries_of condition) ∙ rw (long, bad) refl)

pub asks_for_no_words : (condition : Condition) → has_no_words condition ≡ true → asks_nothing condition ≡ true
asks_for_no_words condition words = rw words refl

pub asks_too_long : (condition : Condition) → list_any is_query_too_long (queries_of condition) ≡ true → asks_nothing condition ≡ true
asks_too_long condition long =
    ap (λ b. has_no_words condition || b) (any_either is_query_too_long is_bad (queries_of condition) ∙ rw long refl) ∙ or_true (has_no_words condition)
  where
    or_true : (b : Bool) → (b || true) ≡ true
    or_true true = refl
    or_true false = refl

pub asks_badly : (condition : Condition) → list_any is_bad (queries_of condition) ≡ true → asks_nothing condition ≡ true
asks_badly condition bad =
    ap (λ b. has_no_words condition || b) (any_either is_query_too_long is_bad (queries_of condition) ∙ rw bad
    (or_true (list_any is_query_too_long (queries_of condition))))
    ∙ or_true (has_no_words condition)
  where
    or_true : (b : Bool) → (b || true) ≡ true
    or_true true = refl
    or_true false = refl

-- the numbers by its queries, and those by titles
pub given_by : (condition : Condition) (state : State) (queries : List Query) (old new : List ℕ) → asks_nothing condition ≡ false
    → queries ≡ queries_of condition → AreFoundBySome queries state old → AddsPassing old new (has_some_title condition) state.tunes
    → AreNumbersGiven condition state new
given_by condition state queries old new asks made by_queries by_titles =
    let notes = notes_of state.layout in
    record {
      asks = asks;
      gives = λ number. by_titles number
          ∙ ap (λ b. b || passes (has_some_title condition) state.tunes number) (by_queries.are number
          ∙ ap (λ some. passes (λ text. list_any (λ query. matches notes query text) some) state.tunes number) made)
          ∙ sym (passes_or (λ text. list_any (λ query. matches notes query text) (queries_of condition)) (has_some_title condition) state.tunes number);
    }

-- the same numbers in order
pub among_sorted : (given sorted numbers : List ℕ) → IsPermutation given sorted → filter (has_number sorted) numbers ≡ filter (has_number given) numbers
among_sorted given sorted numbers moved = filter_same _ _ (λ number. sym (list_any-IsPermutation (λ other. other == number) given sorted moved)) numbers

-- CONDITIONS
pub rises_of : (low : ℕ) (tunes : List Tune) → LabelsRise low (labels_of tunes) → NumbersRiseFrom low tunes
rises_of low [] rises = tt
rises_of low (tune ∷ tunes) rises = (rises.0, rises_of tune.number tunes rises.1)

-- of no condition all numbers are found
pub found_by_none : (labels : List Label) (state : State) (numbers : List ℕ) → LabelsRise 0 labels
    → numbers ≡ map (λ (label : Label). label.number) labels → AreFound [] labels state numbers
found_by_none labels state numbers rise e = record {
  asks = refl;
  rise = rise;
  are = λ same. e ∙ ap (map (λ (label : Label). label.number)) same ∙ numbers_same state.tunes;
}
  where
    numbers_same : (tunes : List Tune) → map (λ (label : Label). label.number) (labels_of tunes) ≡ map (λ (tune : Tune). tune.number)
        (filter (λ tune. true) tunes)
    numbers_same [] = refl
    numbers_same (tune ∷ tunes) = ap (λ numbers. tune.number ∷ numbers) (numbers_same tunes)

-- of one condition more
pub found_by_next : (conditions : List Condition) (i : ℕ) (condition : Condition) (labels : List Label) (state : State) (numbers given new : List ℕ)
    → i < length conditions → condition ≡ get_or conditions i condition
    → AreFound (take i conditions) labels state numbers → AreNumbersGiven condition state given → new ≡ filter (has_number given) numbers
    → AreFound (take (i + 1) conditions) labels state new
found_by_next conditions i condition labels state numbers given new l at was gives_ e =
    let notes = notes_of state.layout in
    let before : Tune → Bool = λ tune. list_all (λ condition. gives notes condition tune.text) (take i conditions) in
    record {
      asks = list_any_more asks_nothing conditions i condition l ∙ rw (was.asks, ← at) gives_.asks;
      rise = was.rise;
      are = λ same.
          let rises = rises_of 0 state.tunes (subst (LabelsRise 0) same was.rise) in
          e ∙ ap (filter (has_number given)) (was.are same) ∙ found_more given before (gives notes condition) state.tunes rises gives_.gives
          ∙ ap (map (λ (tune : Tune). tune.number)) (filter_same _ _
          (λ (tune : Tune). sym (list_all_more (λ condition. gives notes condition tune.text) conditions i condition l
          ∙ ap (λ one. before tune && gives notes one tune.text) (sym at))) state.tunes);
    }

-- a condition that asks for nothing
pub nothing_among : (conditions : List Condition) (i : ℕ) (condition : Condition) → i < length conditions → condition ≡ get_or conditions i condition
    → asks_nothing condition ≡ true → list_any asks_nothing conditions ≡ true
nothing_among conditions i condition l at nothing = list_any_at asks_nothing conditions i condition l (rw (← at) nothing)
