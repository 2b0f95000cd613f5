-- The states after the first commands of a run, and the files that stand for one of them.
use Rattle.std.specs.Prelude.{◌≡◌, ◌⊎◌, ℕ, List, [], ◌∷◌, ◌++◌, true, false, Result, Ok, Err, ⊤}
use Rattle.tune_store.specs.State.{State}
use Rattle.tune_store.specs.Step.{step}
use Rattle.tune_store.specs.Answers.{stays_open}
use Rattle.tune_store.specs.Runs.{Answered}
use Rattle.tune_store.specs.declared.command.Command.{Command}
use Rattle.tune_store.specs.declared.command.Reply.{Reply}
use Rattle.tune_store.specs.declared.command.Refusal.{Refusal}
use Rattle.tune_store.specs.declared.command.Refusal.TheVariants.{Device}

-- THE STATE AFTER COMMANDS
-- the state after a command, by its answer: a refused one changes nothing, and where the device
-- failed it is the state of a command that took place
abbrev pub state_by : State → Command → Result Reply Refusal → State
state_by state command (Ok reply) = (step state command).0
state_by state command (Err Device) = (step state command).0
state_by state command (Err refusal) = state

-- the state after all of these commands
abbrev pub state_after : State → List Answered → State
state_after state [] = state
state_after state (next ∷ run) = state_after (state_by state next.command next.answer) run

-- no answer tells that the device failed: these commands are acknowledged once they are answered
abbrev pub AreAcknowledged : List Answered → Type 0
AreAcknowledged [] = ⊤
AreAcknowledged (next ∷ run) = (stays_open next.answer ≡ true) × AreAcknowledged run

-- No answer but the last tells that the device failed.
pub data FailsLast : List Answered → Type 0 where
  -- nor does the last
  never_fails : (run : List Answered) → AreAcknowledged run → FailsLast run
  fails_last : (run before : List Answered) (last : Answered) → run ≡ before ++ last ∷ []
      → AreAcknowledged before → stays_open last.answer ≡ false → FailsLast run

-- FILES
-- A file stands for the state after a prefix of the commands that holds all of `done`: after these
-- and the first of the rest, as many as there are in `more`.
pub record StandsForPrefix (stands_for : List ℕ → State → Type 0) (start : State)
    (done rest : List Answered) (file : List ℕ) : Type 0 where
  pub more : List Answered
  pub later : List Answered
  pub divides : rest ≡ more ++ later
  pub stands : stands_for file (state_after start (done ++ more))

-- The last command was answered that the device failed, and a file stands for the state after all
-- before it.
pub record StandsForAllButLast (stands_for : List ℕ → State → Type 0) (start : State)
    (run : List Answered) (file : List ℕ) : Type 0 where
  pub before : List Answered
  pub last : Command
  pub divides : run ≡ before ++ record { command = last; answer = Err Device } ∷ []
  pub stands : stands_for file (state_after start before)

-- a file stands for the state after all commands or, where the last was answered that the device
-- failed, for that or the state before it
abbrev pub StandsForEnd : (List ℕ → State → Type 0) → State → List Answered → List ℕ → Type 0
StandsForEnd stands_for start run file =
    stands_for file (state_after start run) ⊎ StandsForAllButLast stands_for start run file
