-- What a call that asks a store comes to.
use Rattle.std.specs.Prelude.{◌≡◌, ◌⊎◌, ℕ, List, [], ◌++◌, map, true, false, Option, Some, None}
use Rattle.std.specs.Prelude.{Result, Ok, Err, MatchResult, Bool, ◌&&◌, ◌||◌, ◌==◌}
use Rattle.std.specs.List.{list_any}
use Rattle.std.specs.Option.{option_map_or}
use Rattle.abc_fields.specs.Fields.{titles_of}
use Rattle.tune_books.specs.WrittenBooks.{written_tunes}
use Rattle.tune_queries.specs.Queries.{matches, is_bad}
use Rattle.tune_queries.specs.declared.queries.Query.{Query}
use Rattle.tune_titles.specs.Titles.{index_title}
use Rattle.tune_store.specs.Labels.{labels_of, LabelsRise}
use Rattle.tune_store.specs.Limits.{notes_of}
use Rattle.tune_store.specs.Questions.{row_of}
use Rattle.tune_store.specs.State.{State, tune_at}
use Rattle.tune_store.specs.declared.catalog.Label.{Label}
use Rattle.tune_store.specs.declared.tune.Tune.{Tune}
use Rattle.tune_store.specs.declared.index_rows.IndexRow.{IndexRow}
use Rattle.tune_store.specs.declared.command.Refusal.{Refusal}
use Rattle.tune_store.specs.declared.command.Refusal.TheVariants.{Device, Unknown, BadQuery}
use Rattle.tune_store.specs.declared.tune_store.TuneStore.{Ghosts}
use Rattle.tune_asking.specs.Asking.{IsOnlyAsked, IsFault}
use Rattle.tune_asking.specs.AskingCalls.{Meaning}
use Rattle.desk_questions.specs.Conditions.{gives, has_title, asks_nothing}
use Rattle.desk_questions.specs.Told.{found_by_all, tunes_at}
use Rattle.desk_terms.specs.declared.condition.Condition.{Condition}

-- NUMBERS
-- whether a number is among these
abbrev pub has_number : List ℕ → ℕ → Bool
has_number numbers number = list_any (λ other. other == number) numbers

-- whether a tune of this number passes a test of its text
abbrev pub passes : (List ℕ → Bool) → List Tune → ℕ → Bool
passes test tunes number = list_any (λ tune. (tune.number == number) && test tune.text) tunes

-- numbers to which those of the tunes that pass were added
abbrev pub AddsPassing : List ℕ → List ℕ → (List ℕ → Bool) → List Tune → Type 0
AddsPassing old new test tunes = (number : ℕ)
    → has_number new number ≡ (has_number old number || passes test tunes number)

-- whether a text has a title that a condition gives
abbrev pub has_some_title : Condition → List ℕ → Bool
has_some_title condition text =
    list_any (λ title. has_title condition (index_title title)) (titles_of text)

-- whether the title of a row, if it has one, is one that a condition gives
abbrev pub has_row_title : Condition → IndexRow → Bool
has_row_title condition row = option_map_or (has_title condition) row.title false

-- the numbers of the tunes that a query finds are added, unless it asks for nothing
abbrev pub added_by_query : Query → List ℕ → List ℕ → Meaning (Unit {0})
added_by_query query old new = record {
  good = λ state value. (is_bad query ≡ false)
      × AddsPassing old new (matches (notes_of state.layout) query) state.tunes;
  refused = λ state refusal. (is_bad query ≡ true) × (refusal ≡ BadQuery);
}

-- the numbers of the tunes that have such a title are added
abbrev pub added_by_title : Condition → List ℕ → List ℕ → Meaning (Unit {0})
added_by_title condition old new = record {
  good = λ state value. AddsPassing old new (has_some_title condition) state.tunes;
  refused = λ state refusal. ⊥;
}

-- the numbers of the tunes that some of these queries find, none of which asks for nothing
pub record AreFoundBySome (queries : List Query) (state : State) (numbers : List ℕ) : Type 0 where
  pub ask : list_any is_bad queries ≡ false
  pub are : (number : ℕ) → has_number numbers number
      ≡ passes (λ text. list_any (λ query. matches (notes_of state.layout) query text) queries)
      state.tunes number

-- numbers of the tunes that a condition gives
pub record AreNumbersGiven (condition : Condition) (state : State) (numbers : List ℕ) : Type 0 where
  pub asks : asks_nothing condition ≡ false
  pub gives : (number : ℕ) → has_number numbers number
      ≡ passes (gives (notes_of state.layout) condition) state.tunes number

-- numbers that rise, those of the tunes that all conditions give, where the labels are these tunes'
pub record AreFound (conditions : List Condition) (labels : List Label) (state : State)
    (numbers : List ℕ) : Type 0 where
  pub asks : list_any asks_nothing conditions ≡ false
  pub rise : LabelsRise 0 labels
  pub are : labels ≡ labels_of state.tunes
      → numbers ≡ map (λ tune. tune.number) (found_by_all conditions state)

-- the rows of the tunes of these numbers
pub record AreRowsAt (numbers : List ℕ) (state : State) (rows : List IndexRow) : Type 0 where
  pub tunes : List Tune
  pub at : tunes_at numbers state.tunes ≡ Ok tunes
  pub are : rows ≡ map row_of tunes

-- the tunes of these numbers, written behind some bytes
pub record AreWritten (numbers : List ℕ) (old new : List ℕ) (state : State) : Type 0 where
  pub tunes : List Tune
  pub at : tunes_at numbers state.tunes ≡ Ok tunes
  pub are : new ≡ old ++ written_tunes (map (λ tune. tune.number) tunes)
      (map (λ tune. tune.text) tunes)

-- a test of what was asked for: it is refused where a condition asks for nothing
abbrev pub RefusesNothing : List Condition → Refusal → Type 0
RefusesNothing conditions refusal =
    (list_any asks_nothing conditions ≡ true) × (refusal ≡ BadQuery)
