-- What an order does that puts a copy where FILE leads.
use Rattle.std.specs.Prelude.{◌≡◌, ◌≢◌, ◌⊎◌, ℕ, List, [], ◌∷◌, ◌++◌, codes, decimal}
use Rattle.std.specs.Prelude.{Option, Some, None, Result, Ok, Err}
use Rattle.std.specs.List.{AllByRecursion}
use Rattle.sha2.specs.Sha256.{sha256}
use Rattle.tune_disk.specs.Disk.{DiskState}
use Rattle.tune_disk.specs.Stops.{LeavesOnly}
use Rattle.tune_disk.specs.declared.disk.Disk as disk
use Rattle.tune_disk.specs.declared.file.Access.TheVariants.{Read}
use Rattle.tune_store.specs.State.{State}
use Rattle.tune_format.specs.States.{Holds}
use Rattle.tune_archive.specs.declared.archive.Counts.{Counts}
use Rattle.tune_scripts.specs.Replies.{line_of}
use Rattle.tune_desk.specs.ArchiveFiles.{MakesArchive, MakesNone, PutsArchive}
use Rattle.tune_desk.specs.DeskDeeds.{DeskDeed, ChangesNothing, opened, closed}
use Rattle.desk_scenes.specs.OpenedFile.{CountsOf}
use Rattle.desk_scenes.specs.Printing.{IsSilent, PrintsOrNot}
use Rattle.desk_scenes.specs.Scenes.{Scene}
use Rattle.desk_copies.specs.SumFiles.{AgreesWith}
use Rattle.desk_copies.specs.declared.restores.Restored.{Restored}
use Rattle.desk_copies.specs.declared.restores.Unrestored.{Unrestored}

-- The copy holds a state, which each file that a stop leaves of the new disk holds; these are its
-- numbers.
pub record RestoresState (from to : DiskState) (counts : Counts) : Type 0 where
  pub state : State
  pub held : Holds from.seen state
  pub kept : LeavesOnly to.now (λ left. Holds left state)
  pub counted : CountsOf counts state

-- COPY, and its disk before and after it was read.
pub record CopyRead (D : Type 0) : Type 0 where
  pub path : List ℕ
  pub source : D
  pub after : D

-- An archive was put where FILE leads that holds the state of COPY, whose disk was only read.
pub record PutsCopy {D : Type 0} (disks : disk.Ghosts D) (file : List ℕ) (read : CopyRead D)
    (restored : Restored) (was now : List (DeskDeed D)) : Type 0 where
  pub made : D
  pub makes : MakesArchive file was now
  pub puts : PutsArchive file made was now
  pub restores : disks.honest read.after → disks.honest made
      → RestoresState (disks.state read.source) (disks.state made) restored.counts

-- It was; or none was.
abbrev pub RestoresFrom : {D : Type 0} → disk.Ghosts D → List ℕ → CopyRead D
    → Result Restored Unrestored → List (DeskDeed D) → List (DeskDeed D) → Type 0
RestoresFrom disks file read (Ok restored) was now = PutsCopy disks file read restored was now
RestoresFrom disks file read (Err why) was now = MakesNone file was now

-- First the sum of what COPY shows was found to agree with COPY.sha256.
pub record AgreesAndPuts {D : Type 0} (disks : disk.Ghosts D) (file : List ℕ) (read : CopyRead D)
    (restored : Restored) (was now : List (DeskDeed D)) : Type 0 where
  pub sum : List ℕ
  pub asked : List (DeskDeed D)
  pub mid : List (DeskDeed D)
  pub history : mid ≡ was ++ asked
  pub quiet : AllByRecursion ChangesNothing asked
  pub agrees : AgreesWith read.path sum asked
  pub summed : disks.honest read.after → sum ≡ sha256 (disks.state read.source).seen
  pub puts : PutsCopy disks file read restored mid now

abbrev pub AgreesAndRestores : {D : Type 0} → disk.Ghosts D → List ℕ → CopyRead D
    → Result Restored Unrestored → List (DeskDeed D) → List (DeskDeed D) → Type 0
AgreesAndRestores disks file read (Ok restored) was now =
    AgreesAndPuts disks file read restored was now
AgreesAndRestores disks file read (Err why) was now = MakesNone file was now

-- COPY was opened to read alone, and closed behind that.
pub record HasRestored {D : Type 0} (disks : disk.Ghosts D) (file copy : List ℕ)
    (restored : Restored) (was now : List (DeskDeed D)) : Type 0 where
  pub source : D
  pub after : D
  pub first : List (DeskDeed D)
  pub last : List (DeskDeed D)
  pub makes : MakesArchive file was now
  pub opens : first ≡ was ++ opened copy Read (Ok source) ∷ []
  pub puts : AgreesAndPuts disks file (record { path = copy; source = source; after = after })
      restored first last
  pub closes : now ≡ last ++ closed copy after ∷ []

abbrev pub RestoresFile : {D : Type 0} → disk.Ghosts D → List ℕ → List ℕ
    → Result Restored Unrestored → List (DeskDeed D) → List (DeskDeed D) → Type 0
RestoresFile disks file copy (Ok restored) was now =
    HasRestored disks file copy restored was now
RestoresFile disks file copy (Err why) was now = MakesNone file was now

-- WHAT IS PRINTED: how much the archive holds, and where the one that was there is now
abbrev pub aside_told : List ℕ → Option ℕ → List ℕ
aside_told file None = []
aside_told file (Some number) = codes "the archive that was there is "
    ++ file ++ codes "." ++ decimal number ++ codes ".old now\n"

abbrev pub restored_bytes : List ℕ → Restored → List ℕ
restored_bytes file restored =
    line_of restored.counts.layout restored.counts.tunes restored.counts.sets
    ++ aside_told file restored.aside

-- A copy was restored, and that was printed; or none was, and the status says so.
abbrev pub Restores : {D : Type 0} → disk.Ghosts D → List ℕ → List ℕ → Scene D → Type 0
Restores disks file copy scene = ((restored : Restored)
    × HasRestored disks file copy restored scene.was scene.now
    × PrintsOrNot scene.streams (restored_bytes file restored) scene.status)
    ⊎ (MakesNone file scene.was scene.now × IsSilent scene.streams × (scene.status ≢ 0))
