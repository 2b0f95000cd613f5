-- What is done to begin a result as a disk.
use Rattle.std.specs.Prelude.{◌≡◌, ◌⊎◌, ℕ, Bool, List, [], ◌∷◌, ◌++◌, Result, Ok, Err}
use Rattle.std.specs.Prelude.{string_bytes}
use Rattle.tune_desk.specs.DeskDeeds.{DeskDeed, created}
use Rattle.tune_desk.specs.Inside.Asks.{Asks, MayBeWritten}
use Rattle.tune_desk.specs.Inside.Puts.{refusal_of_making}
use Rattle.tune_desk.specs.Refusals.{HasCause}
use Rattle.tune_desk.specs.Results.{Places, new_of}
use Rattle.tune_desk.specs.declared.begun_results.NewDisk.{NewDisk}
use Rattle.tune_desk.specs.declared.desk.DeskFault.{DeskFault}
use Rattle.tune_desk.specs.declared.refusals.ResultRefusal.{ResultRefusal}

-- After questions alone TARGET.new was made; or it was not; or the questions refused it.
pub record BeginsNew {D : Type 0} (places : Places) (target : List ℕ) (begun : NewDisk D)
    (was now : List (DeskDeed D)) : Type 0 where
  pub mid : List (DeskDeed D)
  pub asks : Asks (MayBeWritten places target begun.over) was mid
  pub history : now ≡ mid ++ created (new_of target) (Ok begun.disk) ∷ []
  pub new : string_bytes begun.new ≡ new_of target

pub record BeginsNone {D : Type 0} (places : Places) (target : List ℕ) (why : ResultRefusal)
    (was now : List (DeskDeed D)) : Type 0 where
  pub over : Bool
  pub fault : DeskFault
  pub mid : List (DeskDeed D)
  pub asks : Asks (MayBeWritten places target over) was mid
  pub history : now ≡ mid ++ created (new_of target) (Err fault) ∷ []
  pub told : why ≡ refusal_of_making fault

abbrev pub BeginsAt : {D : Type 0} → Places → List ℕ → Result (NewDisk D) ResultRefusal
    → List (DeskDeed D) → List (DeskDeed D) → Type 0
BeginsAt places target (Ok begun) was now = BeginsNew places target begun was now
BeginsAt places target (Err why) was now =
    Asks (HasCause places target why) was now ⊎ BeginsNone places target why was now
