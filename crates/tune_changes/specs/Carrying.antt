-- What a call comes to that carries out commands of a store, one after another.
use Rattle.std.specs.Prelude.{◌≡◌, ◌⊎◌, List, [], ◌∷◌, ◌++◌, true, false, not, filter, Result, Err}
use Rattle.std.specs.Prelude.{MatchResult}
use Rattle.tune_store.specs.State.{State, Standing}
use Rattle.tune_store.specs.Step.{step}
use Rattle.tune_store.specs.Answers.{Answers, asks, open_at}
use Rattle.tune_store.specs.Runs.{Answered}
use Rattle.tune_store.specs.Stores.{standing_of}
use Rattle.tune_store.specs.declared.command.Command.{Command}
use Rattle.tune_store.specs.declared.command.Refusal.{Refusal}
use Rattle.tune_store.specs.declared.command.Refusal.TheVariants.{Device}
use Rattle.tune_store.specs.declared.tune_store.TuneStore.{Ghosts}
use Rattle.tune_scripts.specs.Carried.{Carried, CarriesAllOut, run_of}
use Rattle.tune_asking.specs.Asking.{IsFault}
use Rattle.tune_changes.specs.CommandRuns.{LeadsAccepted}

-- of commands that were answered, those that are no questions
abbrev pub changes_of : List Answered → List Answered
changes_of run = filter (λ next. not (asks next.command)) run

-- commands, each with the answer that it has after those before it
abbrev pub answered : List Command → State → List Answered
answered [] state = []
answered (command ∷ commands) state =
    record { command = command; answer = (step state command).1 }
    ∷ answered commands (step state command).0

-- All of these commands were carried out, one after another, and each was accepted; beside them
-- nothing but questions.
pub record CarriesAll (old new : Standing) (commands : List Command) (run : List Answered)
    : Type 0 where
  pub just : changes_of run ≡ answered commands old.state
  pub leads : LeadsAccepted old.state commands new.state

-- What came of the first of the commands that were left, as they ended at a refusal: it was given
-- this refusal; or it was not carried out, since a question met a fault, or memory ran out.
abbrev pub EndsAtRefusal : State → List Command → List Answered → Refusal → Standing → Type 0
EndsAtRefusal state left [] refusal new = IsFault refusal × (new.state ≡ state)
EndsAtRefusal state (command ∷ left) (last ∷ []) refusal new =
    (last ≡ record { command = command; answer = Err refusal })
    × Answers (open_at state) command (Err refusal) new
EndsAtRefusal state left run refusal new = ⊥

-- Of these commands a front was carried out, each accepted, and then they ended at a refusal.
pub record CarriesFront (old new : Standing) (commands : List Command) (refusal : Refusal)
    (run : List Answered) : Type 0 where
  pub done : List Command
  pub left : List Command
  pub front : commands ≡ done ++ left
  pub mid : State
  pub leads : LeadsAccepted old.state done mid
  pub last : List Answered
  pub just : changes_of run ≡ answered done old.state ++ last
  pub ends : EndsAtRefusal mid left last refusal new

-- From one store to another by these commands, or by a front of them, and by questions.
pub record CarriesOutSome {S T : Type 0} (kept : Ghosts S) (old new : S)
    (commands : List Command) (result : Result T Refusal) : Type 0 where
  pub carried : List (Carried S)
  pub carries_out : CarriesAllOut kept old carried new
  pub ends : kept.closed old ≡ false → MatchResult result
      (λ _. CarriesAll (standing_of kept old) (standing_of kept new) commands (run_of carried))
      (λ refusal. CarriesFront (standing_of kept old) (standing_of kept new) commands refusal
      (run_of carried))

-- A store was to carry out these commands: `Ok`, it did, and accepted each; a refusal ended them.
-- An open store is closed only by a failure of its device.
pub record Carries {S T : Type 0} (kept : Ghosts S) (old new : S) (commands : List Command)
    (result : Result T Refusal) : Type 0 where
  -- whether its device was honest is known only after it answered
  pub was_honest : kept.honest new → kept.honest old
  pub stays_sound : kept.sound old → kept.sound new
  pub stays : kept.closed old ≡ false
      → MatchResult result (λ _. kept.closed new ≡ false)
      (λ refusal. kept.closed new ≡ true → refusal ≡ Device)
  pub carried : kept.honest new → CarriesOutSome kept old new commands result
