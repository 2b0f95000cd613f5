-- The files that stops leave before a call and at any moment of it use few pages together.
use Rattle.std.proofs.Common.{◌≡◌, inl, inr, ℕ, ◌<◌, List, ◌∷◌, false, length, sym, subst, Result, Ok, Err}
use Rattle.tune_disk.specs.Disk.{DiskState, MayLeave}
use Rattle.tune_disk.specs.Stops.{SinceThen}
use Rattle.tune_disk.proofs.Moments.{since_same, since_weaker}
use Rattle.tune_pages.specs.Kept.{HonestAt, state_at}
use Rattle.tune_store.specs.Answers.{passed}
use Rattle.tune_store.specs.State.{State}
use Rattle.tune_store.specs.Step.{step}
use Rattle.tune_store.specs.StoreStops.{StandsForOne}
use Rattle.tune_store.specs.declared.command.Command.{Command}
use Rattle.tune_store.specs.declared.command.Command.TheVariants.{ExportAll}
use Rattle.tune_store.specs.declared.command.Refusal.{Refusal}
use Rattle.tune_store.specs.declared.command.Refusal.TheVariants.{Device}
use Rattle.tune_store.specs.declared.command.Reply.{Reply}
use Rattle.tune_format.specs.States.{Holds}
use Rattle.tune_format.proofs.StateLemmas.{state_once}
use Rattle.tune_contents.specs.FilePages.{UseFewer, pages_of_both}
use Rattle.tune_contents.specs.Most.{enough_pages}
use Rattle.tune_archive.specs.Media.{UseFewerSince}
use Rattle.tune_archive.specs.Shelf.{Shelf, state_of}
use Rattle.tune_archive.proofs.Called.{Ended, KeepsShelf, at_rest}

-- a file of a state that a call passed is one of the state after some command: an export leaves it
passed_made : (state : State) (command : Command) (answer : Result Reply Refusal) (file : List ℕ)
    → StandsForOne Holds (passed state command answer) file → Holds file (step state command).0
passed_made state command (Ok reply) file stands = elim stands [ inl made ↦ made | inr none ↦ absurd none ]
passed_made state command (Err Device) file stands = elim stands [ inl made ↦ made | inr none ↦ absurd none ]
passed_made state command (Err why) file none = absurd none

passed_by : (state : State) (command : Command) (answer : Result Reply Refusal) (file : List ℕ)
    → StandsForOne Holds (state ∷ passed state command answer) file → (made : Command) × Holds file (step state made).0
passed_by state command answer file stands =
    elim stands [ inl same ↦ (ExportAll, same) | inr one ↦ (command, passed_made state command answer file one) ]

-- what the law of file pages says of two files
module _ (law : (one other : List ℕ) (state : State) (command : Command) (before : Holds one state)
    (after : Holds other (step state command).0) → length (pages_of_both before after) < enough_pages state.layout) where
  few_once : (one other : List ℕ) (state : State) (command : Command) (old new : State) → old ≡ state → new ≡ (step state command).0
      → (before : Holds one old) (after : Holds other new) → length (pages_of_both before after) < enough_pages state.layout
  few_once one other state command old new was is =
      let Few : State → State → Type 0 = λ a b. (before : Holds one a) (after : Holds other b)
      → length (pages_of_both before after) < enough_pages state.layout in
      subst (λ (a : State). Few a new) (sym was) (subst (λ (b : State). Few state b) (sym is) (law one other state command))

  -- a file of the state before a call, and one of a state that the call passed
  few_passed : (one other : List ℕ) (state : State) (command : Command) (answer : Result Reply Refusal) → Holds one state
      → StandsForOne Holds (state ∷ passed state command answer) other → UseFewer (enough_pages state.layout) one other
  few_passed one other state command answer stands then = λ old new before after.
      (let by = passed_by state command answer other then in
      few_once one other state by.0 old new (state_once one old state before stands) (state_once other new (step state by.0).0 after by.1) before after)

  module _ {D : Type 0} (honest : D → Type 0) (failures : D → ℕ) (state : D → DiskState) where
    pub files_together : (old new : Shelf D) (command : Command) (answer : Result Reply Refusal) → Ended honest failures state old new command answer
        → KeepsShelf honest failures state old → HonestAt honest new.pages.disk → old.closed ≡ false
        → UseFewerSince (enough_pages (state_of state old).layout) (state_at state old.pages.disk) (state_at state new.pages.disk)
    files_together old new command answer ended holds h is_open =
        let disk = state_at state old.pages.disk in
        let was = state_of state old in
        let rest = at_rest honest failures state old holds (ended.was_honest h) is_open in
        let Few : List ℕ → Type 0 = λ after. (before : List ℕ) → MayLeave disk.now before → UseFewer (enough_pages was.layout) before after in
        elim (ended.moves h) [
          | inl same ↦ subst (λ (d : DiskState). SinceThen disk d Few) (sym same)
              (since_same Few disk (λ file may one left. few_passed one file was command answer (rest one left) (inl (rest file may))))
          | inr wrote ↦ since_weaker (StandsForOne Holds (was ∷ passed was command answer)) Few
              (λ file stands one left. few_passed one file was command answer (rest one left) stands) disk (state_at state new.pages.disk) wrote.2
        ]
