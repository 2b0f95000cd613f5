-- The law of revisions: what commands, one after another, make of the revision of a tune.
use Rattle.std.specs.Prelude.{◌≡◌, ℕ, ◌+◌, List, [], ◌∷◌, Bool, true, false, ◌&&◌, ◌==◌}
use Rattle.std.specs.Prelude.{if◌then◌else◌}
use Rattle.std.specs.Prelude.{IsTrue, IsFalse, Option, Some, IsSome, Ok, is_ok, ⊤}
use Rattle.std.specs.Option.{option_map}
use Rattle.tune_store.specs.State.{State, Standing, tune_at}
use Rattle.tune_store.specs.Step.{step}
use Rattle.tune_store.specs.Answers.{Answers}
use Rattle.tune_store.specs.Runs.{Answered, Runs}
use Rattle.tune_store.specs.declared.tune.Tune.{Tune}
use Rattle.tune_store.specs.declared.command.Command.{Command}
use Rattle.tune_store.specs.declared.command.Command.TheVariants.{Replace, Delete, Renumber}
use Rattle.tune_store.specs.declared.command.Reply.{Reply}

-- THE REVISION OF A TUNE
-- the revision of the tune of a number, in a list of tunes
abbrev pub revision_in : ℕ → List Tune → Option ℕ
revision_in number tunes = option_map (λ tune. tune.revision) (tune_at number tunes)

-- and in a state
abbrev pub revision_of : ℕ → State → Option ℕ
revision_of number state = revision_in number state.tunes

-- there is a tune of the number
abbrev pub HasTune : ℕ → State → Type 0
HasTune number state = IsSome (tune_at number state.tunes)

-- ONE COMMAND
-- whether a command is accepted
abbrev pub accepts : State → Command → Bool
accepts state command = is_ok (step state command).1

-- whether a command is a Replace of the tune of a number
abbrev pub is_replace_of : ℕ → Command → Bool
is_replace_of number (Replace other revision book) = other == number
is_replace_of number command = false

-- whether a command is an accepted Replace of the tune of a number
abbrev pub replaces : ℕ → State → Command → Bool
replaces number state command = is_replace_of number command && accepts state command

-- the number that the tune of a number has after a command, which was accepted or not
abbrev pub now_at : Command → Bool → ℕ → ℕ
now_at (Renumber number to) true other = if other == number then to else other
now_at command accepted other = other

-- RUNS OF COMMANDS
-- the same after a command that was answered
abbrev pub now_after : Answered → ℕ → ℕ
now_after next number = now_at next.command (is_ok next.answer) number

-- and after a run
abbrev pub number_after : List Answered → ℕ → ℕ
number_after [] number = number
number_after (next ∷ run) number = number_after run (now_after next number)

-- whether a command is a Delete of the tune of a number
abbrev pub is_delete_of : ℕ → Command → Bool
is_delete_of number (Delete other) = other == number
is_delete_of number command = false

-- no accepted Delete of the tune that begins with a number is in a run
abbrev pub StaysUndeleted : ℕ → List Answered → Type 0
StaysUndeleted number [] = ⊤
StaysUndeleted number (next ∷ run) =
    IsFalse (is_delete_of number next.command && is_ok next.answer)
    × StaysUndeleted (now_after next number) run

-- how many accepted Replaces of the tune that begins with a number are in a run
abbrev pub times_replaced : ℕ → List Answered → ℕ
times_replaced number [] = 0
times_replaced number (next ∷ run) =
    (if is_replace_of number next.command && is_ok next.answer then 1 else 0)
    + times_replaced (now_after next number) run

-- THE LAW
-- a tune has the revision before, and the next one after
pub record RaisesRevision (number revision : ℕ) (old new : State) : Type 0 where
  pub named : revision_of number old ≡ Some revision
  pub raised : revision_of number new ≡ Some (revision + 1)

-- an accepted Replace names the current revision of its tune, and raises it by one
abbrev pub AcceptedReplaceRaises : State → ℕ → ℕ → List ℕ → Type 0
AcceptedReplaceRaises state number revision book =
    let command = Replace number revision book in
    IsTrue (accepts state command) → RaisesRevision number revision state (step state command).0

-- any other command leaves the revision of a tune that is there before and after it
abbrev pub OthersKeepRevision : State → ℕ → Command → Type 0
OthersKeepRevision state number command =
    let new = (step state command).0 in
    let now = now_at command (accepts state command) number in
    IsFalse (replaces number state command) → HasTune number state → HasTune now new
    → revision_of now new ≡ revision_of number state

-- an accepted command is no Replace, or it names the current revision and raises it by one
abbrev pub RaisesReplaced : Command → State → State → Type 0
RaisesReplaced (Replace number revision book) old new = RaisesRevision number revision old new
RaisesReplaced command old new = ⊤

-- while a tune stays, its revision rises by one with each accepted Replace of it, and by nothing
-- else
abbrev pub RevisionCounts : Standing → List Answered → Standing → ℕ → ℕ → Type 0
RevisionCounts old run new number revision =
    Runs old run new → new.closed ≡ false → revision_of number old.state ≡ Some revision
    → StaysUndeleted number run
    → revision_of (number_after run number) new.state
    ≡ Some (revision + times_replaced number run)

-- while a tune stays, a Replace that names a revision that it had is accepted only where no
-- accepted Replace of it came since
abbrev pub AcceptedReplaceIsCurrent : Standing → List Answered → Standing → ℕ → ℕ → Type 0
AcceptedReplaceIsCurrent old run mid number revision =
    Runs old run mid → revision_of number old.state ≡ Some revision → StaysUndeleted number run
    → (book : List ℕ) (reply : Reply) (new : Standing)
    → Answers mid (Replace (number_after run number) revision book) (Ok reply) new
    → times_replaced number run ≡ 0
