-- Commands that a store carries out one after another, each by one call.
use Rattle.std.specs.Prelude.{◌≡◌, ℕ, ◌≤◌, List, [], ◌∷◌, ◌++◌, Result}
use Rattle.tune_store.specs.Answers.{Answers, passed}
use Rattle.tune_store.specs.Runs.{Answered}
use Rattle.tune_store.specs.Stores.{StorePasses, standing_of}
use Rattle.tune_store.specs.declared.command.Command.{Command}
use Rattle.tune_store.specs.declared.command.Reply.{Reply}
use Rattle.tune_store.specs.declared.command.Refusal.{Refusal}
use Rattle.tune_store.specs.declared.tune_store.TuneStore.{Ghosts}
use Rattle.tune_scripts.specs.Prefixes.{AreAcknowledged, StandsForPrefix, StandsForEnd}
use Rattle.tune_scripts.specs.Timelines.{Timed, Timeline, StandsForFirst}

-- a command that was carried out, its answer, and the store just after it
pub record Carried (S : Type 0) : Type 0 where
  pub command : Command
  pub answer : Result Reply Refusal
  pub after : S

-- the commands and their answers
abbrev pub run_of : {S : Type 0} → List (Carried S) → List Answered
run_of [] = []
run_of (next ∷ carried) =
    record { command = next.command; answer = next.answer } ∷ run_of carried

-- A store carried out one command: the answer is one by the rules, and stops leave what it allows.
pub record IsCarried {S : Type 0} (kept : Ghosts S) (old : S) (next : Carried S) : Type 0 where
  pub answers : Answers (standing_of kept old) next.command next.answer
      (standing_of kept next.after)
  pub passes : StorePasses kept old next.after (passed (kept.state old) next.command next.answer)

-- from one store to another by these commands and nothing else, one after another
abbrev pub CarriesAllOut : {S : Type 0} → Ghosts S → S → List (Carried S) → S → Type 0
CarriesAllOut kept old [] new = new ≡ old
CarriesAllOut kept old (next ∷ carried) new =
    IsCarried kept old next × CarriesAllOut kept next.after carried new

-- how far the store's device had come when the last of these was answered, or at the start
abbrev pub moment_after : {S : Type 0} → Ghosts S → S → List (Carried S) → ℕ
moment_after kept old [] = kept.moment old
moment_after kept old (next ∷ carried) = moment_after kept next.after carried

-- the commands and their answers, each with the moment of its answer
abbrev pub timed_of : {S : Type 0} → Ghosts S → List (Carried S) → List Timed
timed_of kept [] = []
timed_of kept (next ∷ carried) = record {
  command = next.command;
  answer = next.answer;
  moment = kept.moment next.after;
} ∷ timed_of kept carried

-- and from which store on
abbrev pub timeline_of : {S : Type 0} → Ghosts S → S → List (Carried S) → Timeline
timeline_of kept old carried = record {
  start = kept.state old;
  began = kept.moment old;
  run = timed_of kept carried;
}

-- What stops leave of a store that was open, since these commands began.
pub record LeftByRun {S : Type 0} (kept : Ghosts S) (old : S) (carried : List (Carried S)) (new : S)
    : Type 0 where
  -- at any moment since they began: the state after a prefix of them
  pub since_start : (file : List ℕ) → kept.left_since new (kept.moment old) file
      → StandsForPrefix kept.stands_for (kept.state old) [] (run_of carried) file
  -- at any moment since some of them were answered: the state after a prefix that holds these
  pub acknowledged : (done rest : List (Carried S)) (file : List ℕ) → carried ≡ done ++ rest
      → AreAcknowledged (run_of done)
      → kept.left_since new (moment_after kept old done) file
      → StandsForPrefix kept.stands_for (kept.state old) (run_of done) (run_of rest) file
  -- at each moment since they began: the state before the command in progress, or after it
  pub at_each_moment : (moment : ℕ) (file : List ℕ) → kept.moment old ≤ moment
      → kept.left_at new moment file
      → StandsForFirst kept.stands_for (timeline_of kept old carried) moment file
  -- at their end: the state after all, or after all but the last where the device failed in it
  pub at_end : (file : List ℕ) → kept.left_since new (kept.moment new) file
      → StandsForEnd kept.stands_for (kept.state old) (run_of carried) file
