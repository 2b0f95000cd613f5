-- What a command on tunes does to the plain list, and what it is answered.
use Rattle.std.specs.Prelude.{ℕ, ◌+◌, List, [], ◌∷◌, ◌++◌, length, not, ◌==◌, ◌&&◌, nat_lt, nat_le}
use Rattle.std.specs.Prelude.{Bool, if◌then◌else◌, Option, None, Some, Result, Ok, Err}
use Rattle.abc_fields.specs.Books.{Texts}
use Rattle.abc_fields.specs.declared.book.BookFault.{BookFault}
use Rattle.abc_fields.specs.declared.book.BookFault.TheVariants as fault
use Rattle.tune_sets.specs.Sets.{renumbered_sets}
use Rattle.tune_store.specs.declared.layout.Layout.{Layout}
use Rattle.tune_store.specs.declared.layout.Layout.TheVariants.{Two}
use Rattle.tune_store.specs.declared.tune.Tune.{Tune}
use Rattle.tune_store.specs.Limits.{most_tunes, greatest_number, greatest_revision}
use Rattle.tune_store.specs.State.{State, greatest, tune_at}
use Rattle.tune_store.specs.declared.command.Reply.{Reply}
use Rattle.tune_store.specs.declared.command.Reply.TheVariants.{Imported, Replaced, Deleted}
use Rattle.tune_store.specs.declared.command.Reply.TheVariants.{Renumbered}
use Rattle.tune_store.specs.declared.command.Refusal.{Refusal}
use Rattle.tune_store.specs.declared.command.Refusal.TheVariants.{BookTooLong, NoTune}
use Rattle.tune_store.specs.declared.command.Refusal.TheVariants.{BadTune, NotOne, Unknown, Stale}
use Rattle.tune_store.specs.declared.command.Refusal.TheVariants.{Worn, ArchiveFull, NumbersSpent}
use Rattle.tune_store.specs.declared.command.Refusal.TheVariants.{OutOfMemory, InSet, Taken}
use Rattle.tune_store.specs.declared.command.Refusal.TheVariants.{BadNumber}

-- a state, and the answer beside it
abbrev pub Outcome : Type 0
Outcome = State × Result Reply Refusal

-- a list of tunes, and the answer beside it
abbrev pub TunesOutcome : Type 0
TunesOutcome = List Tune × Result Reply Refusal

-- what comes of the tunes of a state comes of the state; its sets stay
abbrev pub tunes_step : State → TunesOutcome → Outcome
tunes_step state outcome = (record state { tunes = outcome.0 }, outcome.1)

-- IMPORT
-- the refusal of a book as one of a command
abbrev pub refusal_of : BookFault → Refusal
refusal_of fault.BookTooLong = BookTooLong
refusal_of fault.NoTune = NoTune
refusal_of (fault.BadTune place why) = BadTune place why
refusal_of fault.OutOfMemory = OutOfMemory

-- new tunes of these texts, with numbers from this one on
abbrev pub numbered : ℕ → List (List ℕ) → List Tune
numbered number [] = []
numbered number (text ∷ texts) =
    record { number = number; revision = 1; text = text } ∷ numbered (number + 1) texts

-- the tunes with those of these texts after them, numbered from the greatest number on
abbrev pub with_texts : List Tune → List (List ℕ) → List Tune
with_texts tunes texts = tunes ++ numbered (greatest tunes + 1) texts

-- the texts of a book: all of them are added, or none
abbrev pub import_texts : Layout → List Tune → List (List ℕ) → TunesOutcome
import_texts layout tunes texts =
    if nat_lt (most_tunes layout) (length tunes + length texts) then (tunes, Err ArchiveFull)
    else if nat_lt greatest_number (greatest tunes + length texts)
    then (tunes, Err NumbersSpent)
    else (
      with_texts tunes texts,
      Ok (Imported (greatest tunes + 1) (greatest tunes + length texts)),
    )

-- the tunes of a book, or why it has none
abbrev pub import_book : Layout → List Tune → Texts → TunesOutcome
import_book layout tunes (Ok texts) = import_texts layout tunes texts
import_book layout tunes (Err why) = (tunes, Err (refusal_of why))

-- THE TUNE OF A NUMBER CHANGED
-- the tunes with this one in the place of the one of its number
abbrev pub with_tune : Tune → List Tune → List Tune
with_tune new [] = []
with_tune new (tune ∷ tunes) =
    if tune.number == new.number then new ∷ tunes else tune ∷ with_tune new tunes

-- the tunes without the one of this number
abbrev pub without_tune : ℕ → List Tune → List Tune
without_tune number [] = []
without_tune number (tune ∷ tunes) =
    if tune.number == number then tunes else tune ∷ without_tune number tunes

-- REPLACE
-- the tune with another text, one revision later
abbrev pub revised : Tune → List ℕ → Tune
revised tune text = record { number = tune.number; revision = tune.revision + 1; text = text }

-- a tune is replaced by who knows its revision
abbrev pub replace_tune : List Tune → ℕ → ℕ → List ℕ → Option Tune → TunesOutcome
replace_tune tunes number revision text None = (tunes, Err (Unknown number))
replace_tune tunes number revision text (Some tune) =
    if not (tune.revision == revision) then (tunes, Err (Stale tune.revision))
    else if not (nat_lt tune.revision greatest_revision) then (tunes, Err Worn)
    else (with_tune (revised tune text) tunes, Ok (Replaced number (tune.revision + 1)))

-- the texts of a book, which has to have one
abbrev pub replace_texts : List Tune → ℕ → ℕ → List (List ℕ) → TunesOutcome
replace_texts tunes number revision [] = (tunes, Err (NotOne 0))
replace_texts tunes number revision (text ∷ []) =
    replace_tune tunes number revision text (tune_at number tunes)
replace_texts tunes number revision (text ∷ next ∷ texts) =
    (tunes, Err (NotOne (length (text ∷ next ∷ texts))))

-- the one tune of a book, or why it has none
abbrev pub replace_book : List Tune → ℕ → ℕ → Texts → TunesOutcome
replace_book tunes number revision (Ok texts) = replace_texts tunes number revision texts
replace_book tunes number revision (Err why) = (tunes, Err (refusal_of why))

-- DELETE
-- a tune is taken out, where no set names it
abbrev pub delete_unheld : List Tune → ℕ → Option (List ℕ) → TunesOutcome
delete_unheld tunes number (Some name) = (tunes, Err (InSet name))
delete_unheld tunes number None = (without_tune number tunes, Ok (Deleted number))

-- a tune is taken out, where there is one; beside it the least name of a set that names it
abbrev pub delete_tune : List Tune → ℕ → Option (List ℕ) → Option Tune → TunesOutcome
delete_tune tunes number held None = (tunes, Err (Unknown number))
delete_tune tunes number held (Some tune) = delete_unheld tunes number held

-- RENUMBER
-- whether a tune may have the number
abbrev pub is_number : ℕ → Bool
is_number number = nat_lt 0 number && nat_le number greatest_number

-- a tune before the first one of a greater number
abbrev pub tune_inserted : Tune → List Tune → List Tune
tune_inserted new [] = new ∷ []
tune_inserted new (tune ∷ tunes) =
    if nat_lt new.number tune.number then new ∷ tune ∷ tunes else tune ∷ tune_inserted new tunes

-- the tunes with this one under another number
abbrev pub moved_tune : Tune → ℕ → List Tune → List Tune
moved_tune tune to tunes = tune_inserted (record tune { number = to })
    (without_tune tune.number tunes)

-- the tunes with the one of a number under another one, where there is one
abbrev pub moved_if : ℕ → List Tune → Option Tune → List Tune
moved_if to tunes None = tunes
moved_if to tunes (Some tune) = moved_tune tune to tunes

abbrev pub moved : ℕ → ℕ → List Tune → List Tune
moved number to tunes = moved_if to tunes (tune_at number tunes)

-- the same, and each place of a set that names the tune names it by the new number
abbrev pub renumbered_state : ℕ → ℕ → State → State
renumbered_state number to state = record state {
  tunes = moved number to state.tunes;
  sets = renumbered_sets number to state.sets;
}

-- a tune gets another number, unless another tune has it; its own changes nothing
abbrev pub renumber_unless : State → ℕ → ℕ → Option Tune → Outcome
renumber_unless state number to None =
    (renumbered_state number to state, Ok (Renumbered number to))
renumber_unless state number to (Some other) =
    if number == to then (state, Ok (Renumbered number to)) else (state, Err (Taken to))

-- a tune gets another number, where there is one
abbrev pub renumber_found : State → ℕ → ℕ → Option Tune → Outcome
renumber_found state number to None = (state, Err (Unknown number))
renumber_found state number to (Some tune) =
    renumber_unless state number to (tune_at to state.tunes)

-- a tune gets another number, which a tune may have
abbrev pub renumber : State → ℕ → ℕ → Outcome
renumber state number to =
    if is_number to then renumber_found state number to (tune_at number state.tunes)
    else (state, Err BadNumber)

-- UPGRADE
-- the same tunes and sets in layout 2
abbrev pub upgraded_state : State → State
upgraded_state state = record state { layout = Two }
