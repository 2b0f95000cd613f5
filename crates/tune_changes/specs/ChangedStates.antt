-- States that differ in revisions alone, and a state in which a subject is another.
use Rattle.std.specs.Prelude.{◌≡◌, ℕ, List, [], ◌∷◌, map, Option, None, Some}
use Rattle.std.specs.Prelude.{if◌then◌else◌}
use Rattle.std.specs.Str.{bytes_eq}
use Rattle.tune_sets.specs.Sets.{set_inserted as set_inserted, without_set as without_set}
use Rattle.tune_sets.specs.declared.set_lists.TuneSet.{TuneSet}
use Rattle.tune_store.specs.State.{State, tune_at}
use Rattle.tune_store.specs.TuneSteps.{tune_inserted, without_tune, revised}
use Rattle.tune_store.specs.declared.tune.Tune.{Tune}
use Rattle.tune_changes.specs.SubjectTurns.{Subject, Aim}
use Rattle.tune_changes.specs.SubjectTurns.Subject.{TuneOf, SetOf}

-- REVISIONS LEFT OUT
-- a tune as if it had never been replaced
abbrev pub anew : Tune → Tune
anew tune = record tune { revision = 1 }

-- the tunes so
abbrev pub all_anew : List Tune → List Tune
all_anew tunes = map anew tunes

-- a state but for the revisions of its tunes: numbers, texts, set lists and the layout
abbrev pub face : State → State
face state = record state { tunes = all_anew state.tunes }

-- two states are the same but for revisions
abbrev pub AreAlike : State → State → Type 0
AreAlike old new = face old ≡ face new

-- A SUBJECT THAT IS ANOTHER
-- what the tune of a number is with a text: a new tune, the tune itself, or one revision later
abbrev pub tune_with : ℕ → Option Tune → List ℕ → Tune
tune_with number None text = record { number = number; revision = 1; text = text }
tune_with number (Some tune) text =
    if bytes_eq tune.text text then tune else revised tune text

-- tunes in which the one of a number has this text, or is not there
abbrev pub put_text : ℕ → Option (List ℕ) → List Tune → List Tune
put_text number None tunes = without_tune number tunes
put_text number (Some text) tunes =
    tune_inserted (tune_with number (tune_at number tunes) text) (without_tune number tunes)

-- set lists of which that of a name has these numbers, or is not there
abbrev pub put_numbers : List ℕ → Option (List ℕ) → List TuneSet → List TuneSet
put_numbers name None sets = without_set name sets
put_numbers name (Some numbers) sets =
    set_inserted (record { name = name; numbers = numbers }) (without_set name sets)

-- a state in which a subject is this, and all else is as it was
abbrev pub with_content : Subject → Option (List ℕ) → State → State
with_content (TuneOf number) to state =
    record state { tunes = put_text number to state.tunes }
with_content (SetOf name) to state =
    record state { sets = put_numbers name to state.sets }

-- a state in which subjects are so, one after another
abbrev pub with_each : List Aim → State → State
with_each [] state = state
with_each (aim ∷ aims) state = with_each aims (with_content aim.subject aim.to state)

-- two states are the same but for a subject, and for revisions
abbrev pub AreAlikeBut : Subject → State → State → Type 0
AreAlikeBut subject old new =
    AreAlike (with_content subject None old) (with_content subject None new)
