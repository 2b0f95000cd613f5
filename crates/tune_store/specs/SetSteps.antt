-- What a command on set lists does to the plain list, and what it is answered.
use Rattle.std.specs.Prelude.{ℕ, List, Option, None, Some, Result, Ok, Err}
use Rattle.tune_sets.specs.Calls.{SetsOutcome, create_set, add_number, cut_place, drop_set}
use Rattle.tune_sets.specs.declared.faults.SetFault.{SetFault}
use Rattle.tune_sets.specs.declared.faults.SetFault.TheVariants as fault
use Rattle.tune_store.specs.declared.tune.Tune.{Tune}
use Rattle.tune_store.specs.State.{State, tune_at}
use Rattle.tune_store.specs.TuneSteps.{Outcome}
use Rattle.tune_store.specs.declared.command.Reply.{Reply}
use Rattle.tune_store.specs.declared.command.Reply.TheVariants.{SetMade, SetAdded, SetCut}
use Rattle.tune_store.specs.declared.command.Reply.TheVariants.{SetDropped}
use Rattle.tune_store.specs.declared.command.Refusal.{Refusal}
use Rattle.tune_store.specs.declared.command.Refusal.TheVariants.{Unknown, NoSuchSet, SetTaken}
use Rattle.tune_store.specs.declared.command.Refusal.TheVariants.{SetFull, SetsFull, NoSuchPlace}
use Rattle.tune_store.specs.declared.command.Refusal.TheVariants.{BadName, OutOfMemory}

-- the refusal of set lists as one of a command
abbrev pub refusal_of_sets : SetFault → Refusal
refusal_of_sets fault.BadName = BadName
refusal_of_sets fault.SetTaken = SetTaken
refusal_of_sets fault.SetsFull = SetsFull
refusal_of_sets fault.NoSuchSet = NoSuchSet
refusal_of_sets fault.SetFull = SetFull
refusal_of_sets fault.NoSuchPlace = NoSuchPlace
refusal_of_sets fault.OutOfMemory = OutOfMemory

-- the answer of set lists as one of a command
abbrev pub sets_answer : {Answer : Type 0} → (Answer → Reply) → Result Answer SetFault
    → Result Reply Refusal
sets_answer reply (Ok answer) = Ok (reply answer)
sets_answer reply (Err why) = Err (refusal_of_sets why)

-- what comes of the sets of a state comes of the state; its tunes stay
abbrev pub sets_step : {Answer : Type 0} → (Answer → Reply) → State → SetsOutcome Answer → Outcome
sets_step reply state outcome =
    (record state { sets = outcome.0 }, sets_answer reply outcome.1)

-- a set more
abbrev pub set_new : State → List ℕ → Outcome
set_new state name = sets_step (λ done. SetMade name) state (create_set name state.sets)

-- the number of a tune at the end of a set, where there is the tune
abbrev pub set_add_found : State → List ℕ → ℕ → Option Tune → Outcome
set_add_found state name number None = (state, Err (Unknown number))
set_add_found state name number (Some tune) =
    sets_step (λ place. SetAdded name place) state (add_number name number state.sets)

abbrev pub set_add : State → List ℕ → ℕ → Outcome
set_add state name number = set_add_found state name number (tune_at number state.tunes)

-- a place of a set less
abbrev pub set_cut : State → List ℕ → ℕ → Outcome
set_cut state name place =
    sets_step (λ done. SetCut name place) state (cut_place name place state.sets)

-- a set less
abbrev pub set_drop : State → List ℕ → Outcome
set_drop state name = sets_step (λ done. SetDropped name) state (drop_set name state.sets)
