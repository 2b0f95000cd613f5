-- How commands go on in time, and the state that a file holds at each moment of it.
use Rattle.std.specs.Prelude.{◌≡◌, ◌⊎◌, ℕ, suc, ◌+◌, ◌≤◌, List, [], ◌∷◌, take, map, Bool, true}
use Rattle.std.specs.Prelude.{nat_le, ◌&&◌, if◌then◌else◌, Result, Err, ⊤}
use Rattle.tune_store.specs.State.{State}
use Rattle.tune_store.specs.Step.{step}
use Rattle.tune_store.specs.Answers.{stays_open}
use Rattle.tune_store.specs.Runs.{Answered}
use Rattle.tune_store.specs.declared.command.Command.{Command}
use Rattle.tune_store.specs.declared.command.Reply.{Reply}
use Rattle.tune_store.specs.declared.command.Refusal.{Refusal}
use Rattle.tune_store.specs.declared.command.Refusal.TheVariants.{OutOfMemory, Device}
use Rattle.tune_scripts.specs.Prefixes.{state_by, state_after}

-- a command, its answer, and how far the device had come when it was answered
pub record Timed : Type 0 where
  pub command : Command
  pub answer : Result Reply Refusal
  pub moment : ℕ

-- the same without the moment
abbrev pub answered_of : Timed → Answered
answered_of next = record { command = next.command; answer = next.answer }

-- A timeline of commands: the state before them, the moment at which they began, and each command
-- with its answer, one after another.
pub record Timeline : Type 0 where
  pub start : State
  pub began : ℕ
  pub run : List Timed

-- its moments rise, from one to another
abbrev pub RisesTo : ℕ → List Timed → ℕ → Type 0
RisesTo from [] to = from ≤ to
RisesTo from (next ∷ run) to = (from ≤ next.moment) × RisesTo next.moment run to

-- ANSWERS
-- the answer is that of the plain list, or there was no memory
abbrev pub IsByRules : State → Timed → Type 0
IsByRules state next =
    (next.answer ≡ (step state next.command).1) ⊎ (next.answer ≡ Err OutOfMemory)

-- Each command was answered by the rules, on the state that those before it left, and a refused one
-- left it as it was; or the device failed in it, and it was the last.
abbrev pub AreAnswered : State → List Timed → Type 0
AreAnswered state [] = ⊤
AreAnswered state (next ∷ run) =
    (IsByRules state next × AreAnswered (state_by state next.command next.answer) run)
    ⊎ ((next.answer ≡ Err Device) × (run ≡ []))

-- MOMENTS
-- the state after the first so many of its commands
abbrev pub state_after_first : ℕ → Timeline → State
state_after_first count timeline =
    state_after timeline.start (map answered_of (take count timeline.run))

-- whether a command was answered by this moment, and not by a failure of the device
abbrev pub is_answered_by : ℕ → Timed → Bool
is_answered_by moment next = nat_le next.moment moment && stays_open next.answer

-- how many were
abbrev pub answered_by : ℕ → List Timed → ℕ
answered_by moment [] = 0
answered_by moment (next ∷ run) =
    if is_answered_by moment next then suc (answered_by moment run) else answered_by moment run

-- one of the commands was answered just at this moment
abbrev pub IsAnsweredAt : ℕ → List Timed → Type 0
IsAnsweredAt moment [] = ⊥
IsAnsweredAt moment (next ∷ run) =
    ((next.moment ≡ moment) × (stays_open next.answer ≡ true)) ⊎ IsAnsweredAt moment run

-- At this moment a command was answered, or the first of them had not begun: none is in progress.
abbrev pub IsBetween : ℕ → Timeline → Type 0
IsBetween moment timeline = (timeline.began ≡ moment) ⊎ IsAnsweredAt moment timeline.run

-- A file stands for the state after the first commands of a timeline: all that were answered by a
-- moment, and the next one or not. Where no command is in progress, not.
pub record StandsForFirst (stands_for : List ℕ → State → Type 0) (timeline : Timeline) (moment : ℕ)
    (file : List ℕ) : Type 0 where
  pub count : ℕ
  pub least : answered_by moment timeline.run ≤ count
  pub most : count ≤ answered_by moment timeline.run + 1
  pub between : IsBetween moment timeline → count ≡ answered_by moment timeline.run
  pub stands : stands_for file (state_after_first count timeline)
