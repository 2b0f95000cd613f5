-- What a call of an order looks like from outside.
use Rattle.std.specs.Prelude.{◌≡◌, ◌≢◌, ◌⊎◌, ℕ, List}
use Rattle.std.specs.List.{AllByRecursion}
use Rattle.tune_scripts.specs.Streams.{Streams}
use Rattle.tune_desk.specs.DeskDeeds.{DeskDeed, ChangesNothing}
use Rattle.tune_desk.specs.Results.{Places, SparesFiles, WritesTarget}
use Rattle.tune_desk.specs.Refusals.{Refuses}
use Rattle.tune_desk.specs.declared.refusals.ResultFault.{ResultFault}
use Rattle.desk_scenes.specs.FileAnswers.{Did}

-- One call: what was read and written, what was done with files, and the status.
pub record Scene (D : Type 0) : Type 0 where
  pub streams : Streams
  pub was : List (DeskDeed D)
  pub now : List (DeskDeed D)
  pub status : ℕ

-- A result was written to OUT, and the status is 0; or it was refused, and the status says so.
pub record WritesResult {D : Type 0} (places : Places) (bytes : List ℕ)
    (was now : List (DeskDeed D))
    (status : ℕ) : Type 0 where
  pub spares : SparesFiles places was now
  pub answer : ((status ≡ 0) × WritesTarget places bytes was now)
      ⊎ ((status ≢ 0) × (fault : ResultFault) × Refuses places fault was now)

-- Nothing was done with files but to look at them and to read them.
abbrev pub IsQuiet : {D : Type 0} → List (DeskDeed D) → List (DeskDeed D) → Type 0
IsQuiet was now = Did was now (AllByRecursion ChangesNothing)
