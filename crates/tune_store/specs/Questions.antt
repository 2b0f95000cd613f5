-- What a question is answered.
use Rattle.std.specs.Prelude.{ℕ, ◌+◌, List, [], ◌∷◌, ◌++◌, map, filter, if◌then◌else◌}
use Rattle.std.specs.Prelude.{Option, None, Some, Result, Ok, Err}
use Rattle.abc_fields.specs.Fields.{titles_of}
use Rattle.tune_books.specs.WrittenBooks.{written_book, written_set}
use Rattle.tune_queries.specs.Queries.{matches, is_bad}
use Rattle.tune_queries.specs.declared.queries.Query.{Query}
use Rattle.tune_sets.specs.declared.faults.SetFault.{SetFault}
use Rattle.tune_titles.specs.Order.{PlacedTitle, row_order, in_order}
use Rattle.tune_titles.specs.Titles.{index_title}
use Rattle.tune_store.specs.declared.tune.Tune.{Tune}
use Rattle.tune_store.specs.declared.index_rows.IndexRow.{IndexRow}
use Rattle.tune_store.specs.State.{tune_at}
use Rattle.tune_store.specs.SetSteps.{sets_answer}
use Rattle.tune_store.specs.declared.command.Reply.{Reply}
use Rattle.tune_store.specs.declared.command.Reply.TheVariants.{Shown, Found, SetShown}
use Rattle.tune_store.specs.declared.command.Reply.TheVariants.{SetExported}
use Rattle.tune_store.specs.declared.command.Refusal.{Refusal}
use Rattle.tune_store.specs.declared.command.Refusal.TheVariants.{Unknown, BadQuery}

-- SHOW
-- a tune is shown, where there is one
abbrev pub shown : ℕ → Option Tune → Result Reply Refusal
shown number None = Err (Unknown number)
shown number (Some tune) = Ok (Shown tune)

-- FIND
-- the first of these titles as an index shows it, if there is one
abbrev pub first_shown : List (List ℕ) → Option (List ℕ)
first_shown [] = None
first_shown (title ∷ titles) = Some (index_title title)

-- the row of a tune: its number, and its first title
abbrev pub row_of : Tune → IndexRow
row_of tune = record { number = tune.number; title = first_shown (titles_of tune.text) }

-- a row for each tune that a query finds
abbrev pub found : ℕ → Query → List Tune → List IndexRow
found notes query tunes = map row_of (filter (λ tune. matches notes query tune.text) tunes)

-- the tunes that a query finds, unless it asks for nothing
abbrev pub find : ℕ → Query → List Tune → Result Reply Refusal
find notes query tunes =
    if is_bad query then Err BadQuery else Ok (Found (found notes query tunes))

-- TITLES
-- a row for each of these titles of a tune, at places from this one on
abbrev pub titles_from : ℕ → ℕ → List (List ℕ) → List PlacedTitle
titles_from number place [] = []
titles_from number place (title ∷ titles) =
    record { title = title; number = number; place = place }
    ∷ titles_from number (place + 1) titles

-- a row for each title of each tune
abbrev pub all_titles : List Tune → List PlacedTitle
all_titles [] = []
all_titles (tune ∷ tunes) = titles_from tune.number 1 (titles_of tune.text) ++ all_titles tunes

-- a title as an index shows it
abbrev pub title_row : PlacedTitle → IndexRow
title_row row = record { number = row.number; title = Some (index_title row.title) }

-- the titles in the order of an index
abbrev pub titled : List Tune → List IndexRow
titled tunes = map title_row (in_order row_order (all_titles tunes))

-- SETS
-- the row of the tune of a number; the number alone where there is none
abbrev pub row_found : ℕ → Option Tune → IndexRow
row_found number None = record { number = number; title = None }
row_found number (Some tune) = row_of tune

-- a row for each of these numbers
abbrev pub rows_at : List Tune → List ℕ → List IndexRow
rows_at tunes numbers = map (λ number. row_found number (tune_at number tunes)) numbers

-- the tunes at the places of a set, where there is the set
abbrev pub set_shown : List ℕ → List Tune → Result (List ℕ) SetFault → Result Reply Refusal
set_shown name tunes found = sets_answer (λ numbers. SetShown name (rows_at tunes numbers)) found

-- EXPORT
-- the written book of tunes
abbrev pub exported : List Tune → List ℕ
exported tunes = written_book (map (λ tune. tune.number) tunes) (map (λ tune. tune.text) tunes)

-- the text of a tune and more texts, where there is the tune
abbrev pub with_text : Option Tune → List (List ℕ) → List (List ℕ)
with_text None texts = texts
with_text (Some tune) texts = tune.text ∷ texts

-- the texts of the tunes of these numbers
abbrev pub texts_at : List Tune → List ℕ → List (List ℕ)
texts_at tunes [] = []
texts_at tunes (number ∷ numbers) = with_text (tune_at number tunes) (texts_at tunes numbers)

-- the written set of a name, where there is the set
abbrev pub set_exported : List ℕ → List Tune → Result (List ℕ) SetFault → Result Reply Refusal
set_exported name tunes found =
    sets_answer (λ numbers. SetExported name (written_set name (texts_at tunes numbers))) found
