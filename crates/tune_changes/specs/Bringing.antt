-- The commands that bring a tune or a set list from what it is to what it is to be.
use Rattle.std.specs.Prelude.{ℕ, zero, suc, ◌+◌, ◌-◌, List, [], ◌∷◌, ◌++◌, length, map, drop, ◌==◌}
use Rattle.std.specs.Prelude.{replicate, if◌then◌else◌, Option, None, Some}
use Rattle.std.specs.Str.{bytes_eq}
use Rattle.tune_books.specs.WrittenBooks.{written_book}
use Rattle.tune_store.specs.State.{State, tune_at, greatest}
use Rattle.tune_store.specs.declared.tune.Tune.{Tune}
use Rattle.tune_store.specs.declared.command.Command.{Command}
use Rattle.tune_store.specs.declared.command.Command.TheVariants.{Import, Replace, Delete}
use Rattle.tune_store.specs.declared.command.Command.TheVariants.{Renumber}
use Rattle.tune_store.specs.declared.command.Command.TheVariants.{SetNew, SetAdd, SetCut, SetDrop}
use Rattle.tune_changes.specs.CommandRuns.{after_commands}
use Rattle.tune_changes.specs.SubjectTurns.{Subject, Aim, numbers_at}
use Rattle.tune_changes.specs.SubjectTurns.Subject.{TuneOf, SetOf}

-- TUNES
-- the book of one tune
abbrev pub book_with : ℕ → List ℕ → List ℕ
book_with number text = written_book (number ∷ []) (text ∷ [])

-- a tune that has one number gets another one, where that is another
abbrev pub renumber_commands : ℕ → ℕ → List Command
renumber_commands number to = if number == to then [] else Renumber number to ∷ []

-- From the tune of a number, or none, to a text, or none; `last` is the greatest number of a tune,
-- or 0. A tune that goes in is given the number after it first.
abbrev pub tune_commands : ℕ → ℕ → Option Tune → Option (List ℕ) → List Command
tune_commands last number None None = []
tune_commands last number None (Some text) =
    Import (book_with number text) ∷ renumber_commands (last + 1) number
tune_commands last number (Some tune) None = Delete number ∷ []
tune_commands last number (Some tune) (Some text) =
    if bytes_eq tune.text text then []
    else Replace number tune.revision (book_with number text) ∷ []

-- the tune of a number is brought to a text, or taken out
abbrev pub brought_tune : ℕ → Option (List ℕ) → State → List Command
brought_tune number to state =
    tune_commands (greatest state.tunes) number (tune_at number state.tunes) to

-- SET LISTS
-- how long the common front of two lists is
abbrev pub common_front : List ℕ → List ℕ → ℕ
common_front [] new = 0
common_front (number ∷ old) [] = 0
common_front (number ∷ old) (other ∷ new) =
    if number == other then suc (common_front old new) else 0

-- the places behind the first `kept` are cut, as many as there are, the last one first
abbrev pub cut_behind : List ℕ → ℕ → ℕ → List Command
cut_behind name kept zero = []
cut_behind name kept (suc more) = SetCut name (kept + more + 1) ∷ cut_behind name kept more

-- From numbers to other ones. What stands in front of both stays. Where the others have fewer
-- places, and all that follows these is the same, they are cut; else all behind the front is cut,
-- and put anew.
abbrev pub relaid : List ℕ → List ℕ → List ℕ → List Command
relaid name old new =
    let kept = common_front old new in
    let fewer = length old - length new in
    if bytes_eq (drop (kept + fewer) old) (drop kept new)
    then replicate fewer (SetCut name (kept + 1))
    else cut_behind name kept (length old - kept) ++ map (SetAdd name) (drop kept new)

-- from the numbers of a set list, or none, to other ones, or none
abbrev pub set_commands : List ℕ → Option (List ℕ) → Option (List ℕ) → List Command
set_commands name None None = []
set_commands name None (Some numbers) = SetNew name ∷ map (SetAdd name) numbers
set_commands name (Some old) None = SetDrop name ∷ []
set_commands name (Some old) (Some new) = relaid name old new

-- the set list of a name is brought to these numbers, or dropped
abbrev pub brought_set : List ℕ → Option (List ℕ) → State → List Command
brought_set name to state = set_commands name (numbers_at name state) to

-- A SUBJECT
abbrev pub brought : Subject → Option (List ℕ) → State → List Command
brought (TuneOf number) to state = brought_tune number to state
brought (SetOf name) to state = brought_set name to state

-- subjects are brought to what they are to be, one after another, each from the state that those
-- before it leave
abbrev pub brought_each : List Aim → State → List Command
brought_each [] state = []
brought_each (aim ∷ aims) state =
    let commands = brought aim.subject aim.to state in
    commands ++ brought_each aims (after_commands commands state)
