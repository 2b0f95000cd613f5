-- Why an archive is not opened whose contents could not be claimed.
use Rattle.std.specs.Prelude.{ℕ, List}
use Rattle.tune_journal.specs.declared.open_fault.OpenFault.{OpenFault}
use Rattle.tune_journal.specs.declared.open_fault.OpenFault.TheVariants.{NotArchive, Damaged}
use Rattle.tune_journal.specs.declared.open_fault.OpenFault.TheVariants.{NotEmpty, OutOfMemory}
use Rattle.tune_journal.specs.declared.open_fault.OpenFault.TheVariants.{Device}
use Rattle.tune_pages.specs.declared.fault.ClaimFault.{ClaimFault}
use Rattle.tune_pages.specs.declared.fault.ClaimFault.TheVariants as claim_fault
use Rattle.tune_store.specs.State.{State}
use Rattle.tune_format.specs.States.{IsStateOf}

-- a fault of a claim as a reason
abbrev pub reason_of : ClaimFault → OpenFault
reason_of claim_fault.Damaged = Damaged
reason_of claim_fault.OutOfMemory = OutOfMemory
reason_of claim_fault.Device = Device

-- `Damaged` is answered only where no state stands on the pages.
abbrev pub IsUnclaimedFor : OpenFault → List (List ℕ) → Type 0
IsUnclaimedFor Damaged pages = (state : State) → ¬ IsStateOf pages state
IsUnclaimedFor OutOfMemory pages = Unit {0}
IsUnclaimedFor Device pages = Unit {0}
IsUnclaimedFor NotArchive pages = ⊥
IsUnclaimedFor NotEmpty pages = ⊥
