-- What a command is to change, and what is said where it is decided.
use Rattle.std.specs.Prelude.{◌≡◌, ◌≢◌, ◌+◌, ◌<◌, ◌≤◌, List, ◌++◌, slice_set, vec_len, length, ⊤}
use Rattle.std.specs.Prelude.{slice_index_or}
use Rattle.std.specs.Prelude.{◌⊎◌, Option, None, Some, Result, Ok, Err, IsOk, Bool, true, false}
use Rattle.std.specs.List.{remove, Contains, AllByRecursion}
use Rattle.tune_sets.specs.Sets.{renumbered_sets}
use Rattle.tune_sets.specs.Calls.{create_set, add_number, cut_place, drop_set}
use Rattle.tune_sets.specs.declared.set_lists.TuneSet.{TuneSet}
use Rattle.tune_store.specs.declared.layout.Layout.{Layout}
use Rattle.tune_store.specs.declared.layout.Layout.TheVariants.{One, Two}
use Rattle.tune_store.specs.declared.tune.Tune.{Tune}
use Rattle.tune_store.specs.declared.catalog.Label.{Label}
use Rattle.tune_store.specs.Limits.{most_tunes, greatest_number}
use Rattle.tune_store.specs.State.{State}
use Rattle.tune_store.specs.TuneSteps.{Outcome, numbered, moved}
use Rattle.tune_store.specs.Step.{step}
use Rattle.tune_store.specs.Labels.{numbers_of}
use Rattle.tune_store.specs.Answers.{IsRefusalOfOwn}
use Rattle.tune_store.specs.declared.command.Command.{Command}
use Rattle.tune_store.specs.declared.command.Refusal.{Refusal}
use Rattle.tune_store.specs.declared.command.Refusal.TheVariants.{OutOfMemory, Device}
use Rattle.tune_store.specs.declared.plans.Change.{Change}
use Rattle.tune_store.specs.declared.plans.Change.TheVariants.{Add, Put, Take, Move, NewSet}
use Rattle.tune_store.specs.declared.plans.Change.TheVariants.{AddPlace, CutPlace, DropSet, Upgrade}
use Rattle.tune_store.specs.declared.plans.Plan.{Plan}

-- CHANGES
-- the tunes after a change
abbrev pub changed_tunes : Change → List Tune → List Tune
changed_tunes (Add first texts) tunes = tunes ++ numbered first texts.items
changed_tunes (Put place tune) tunes = slice_set tunes place tune
changed_tunes (Take place) tunes = remove tunes place
changed_tunes (Move number to) tunes = moved number to tunes
changed_tunes change tunes = tunes

-- the sets after it
abbrev pub changed_sets : Change → List TuneSet → List TuneSet
changed_sets (Move number to) sets = renumbered_sets number to sets
changed_sets (NewSet name) sets = (create_set name sets).0
changed_sets (AddPlace name number) sets = (add_number name number sets).0
changed_sets (CutPlace name place) sets = (cut_place name place sets).0
changed_sets (DropSet name) sets = (drop_set name sets).0
changed_sets change sets = sets

-- the layout after it
abbrev pub changed_layout : Change → Layout → Layout
changed_layout Upgrade layout = Two
changed_layout change layout = layout

-- the state after it
abbrev pub changed : Change → State → State
changed change state = record {
  layout = changed_layout change state.layout;
  tunes = changed_tunes change state.tunes;
  sets = changed_sets change state.sets;
}

-- the state after a change, if there is one
abbrev pub after : Option Change → State → State
after None state = state
after (Some change) state = changed change state

-- A change can be carried out on tunes of these labels, and on these sets: they stay within the
-- limits, new numbers are above all others, there is a tune at its place, or of its number, and the
-- sets accept it.
abbrev pub CanChange : Change → Layout → List Label → List TuneSet → Type 0
CanChange (Add first texts) layout labels sets = (length labels + vec_len texts ≤ most_tunes layout)
    × (first + vec_len texts ≤ greatest_number + 1)
    × AllByRecursion (λ label. label.number < first) labels × (0 < first)
CanChange (Put place tune) layout labels sets = (place < length labels)
    × ((d : Label) → (slice_index_or labels place d).number ≡ tune.number)
CanChange (Take place) layout labels sets = place < length labels
CanChange (Move number to) layout labels sets = Contains (numbers_of labels) number
    × (¬ Contains (numbers_of labels) to) × (0 < to) × (to ≤ greatest_number)
CanChange (NewSet name) layout labels sets = IsOk (create_set name sets).1
CanChange (AddPlace name number) layout labels sets = IsOk (add_number name number sets).1
CanChange (CutPlace name place) layout labels sets = IsOk (cut_place name place sets).1
CanChange (DropSet name) layout labels sets = IsOk (drop_set name sets).1
CanChange Upgrade layout labels sets = layout ≡ One

-- the same of a change, if there is one
abbrev pub CanChangeTo : Option Change → Layout → List Label → List TuneSet → Type 0
CanChangeTo None layout labels sets = ⊤
CanChangeTo (Some change) layout labels sets = CanChange change layout labels sets

-- whether a change may ask for memory, in a store that has its tunes in memory
abbrev pub grows : Option Change → Bool
grows (Some (Add first texts)) = true
grows (Some (Put place tune)) = true
grows (Some (NewSet name)) = true
grows (Some (AddPlace name number)) = true
grows change = false

-- REFUSALS
-- a refusal of reading a text: memory ran out, or the device failed
abbrev pub IsRefusalOfFetch : Refusal → Type 0
IsRefusalOfFetch refusal = (refusal ≡ OutOfMemory) ⊎ (refusal ≡ Device)

-- a refusal of a command that is decided
abbrev pub IsRefusalOfPlan : Command → Refusal → Type 0
IsRefusalOfPlan command refusal = IsRefusalOfOwn command refusal ⊎ IsRefusalOfFetch refusal

-- how texts were fetched that ended at a refusal: at `Device` the device failed
abbrev pub EndsFetch : {S : Type 0} → (S → S → Type 0) → (S → S → Type 0) → S → Refusal → S
    → Type 0
EndsFetch fetched failed old refusal new =
    ((refusal ≢ Device) × fetched old new) ⊎ ((refusal ≡ Device) × failed old new)

-- PLANS
-- A plan for a state, or a refusal, is an outcome: the change gives its state; or the refusal is
-- its answer, if it is not of memory or the device.
abbrev pub PlansOutcome : State → Result Plan Refusal → Outcome → Type 0
PlansOutcome state (Ok plan) outcome = outcome ≡ (after plan.change state, Ok plan.reply)
PlansOutcome state (Err refusal) outcome = IsRefusalOfFetch refusal
    ⊎ (outcome ≡ (state, Err refusal))

-- a plan for a command, or a refusal, is what the step of a state asks for
abbrev pub Decides : State → Command → Result Plan Refusal → Type 0
Decides state command result = PlansOutcome state result (step state command)
