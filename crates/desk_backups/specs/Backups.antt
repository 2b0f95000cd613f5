-- What an order does that copies the archive.
use Rattle.std.specs.Prelude.{◌≡◌, ◌≢◌, ◌⊎◌, ℕ, zero, suc, List, [], ◌∷◌, ◌++◌, codes}
use Rattle.std.specs.Prelude.{Option, Result, Ok, Err}
use Rattle.tune_disk.specs.declared.disk.Disk as disk
use Rattle.tune_disk.specs.declared.file.Access.TheVariants.{Read}
use Rattle.tune_scripts.specs.Streams.{Streams}
use Rattle.tune_desk.specs.BegunResults.{WritesDisk}
use Rattle.tune_desk.specs.DeskDeeds.{DeskDeed, opened, closed}
use Rattle.tune_desk.specs.Results.{Places, SparesFiles, WritesTarget}
use Rattle.desk_copies.specs.Copies.{CopiesArchive}
use Rattle.desk_copies.specs.declared.archive_copies.Copied.{Copied}
use Rattle.desk_scenes.specs.FileAnswers.{Did, IsUnasked}
use Rattle.desk_scenes.specs.Printing.{IsSilent, PrintsOrNot}
use Rattle.desk_scenes.specs.Scenes.{Scene}
use Rattle.desk_backups.specs.CopyNames.{numbered_copy, sum_line, copy_places, sum_places}
use Rattle.desk_backups.specs.NextCopies.{FindsNextCopy}
use Rattle.desk_backups.specs.OldCopies.{ThinsBy}
use Rattle.desk_backups.specs.declared.backup_reasons.Unbacked.{Unbacked}

-- the disk of FILE, before and after it was read
pub record FileRead (D : Type 0) : Type 0 where
  pub source : D
  pub after : D

-- A new disk has just what FILE showed, which is an archive, and so has each file that a stop
-- leaves of it.
abbrev pub HasCopy : {D : Type 0} → disk.Ghosts D → FileRead D → Copied → D → Type 0
HasCopy disks read copied made = disks.honest read.after → disks.honest made
    → CopiesArchive (disks.state read.source) (disks.state made) copied

-- A copy was written, by the rule of results.
pub record MakesCopy {D : Type 0} (disks : disk.Ghosts D) (places : Places) (read : FileRead D)
    (copied : Copied) (was now : List (DeskDeed D)) : Type 0 where
  pub spares : SparesFiles places was now
  pub writes : WritesDisk places (HasCopy disks read copied) was now

abbrev pub PutsOrSpares : {D : Type 0} → disk.Ghosts D → Places → FileRead D
    → Result Copied Unbacked → List (DeskDeed D) → List (DeskDeed D) → Type 0
PutsOrSpares disks places read (Ok copied) was now = MakesCopy disks places read copied was now
PutsOrSpares disks places read (Err why) was now = SparesFiles places was now

-- FILE was opened to read alone, copied, and closed.
pub record HasCopied {D : Type 0} (disks : disk.Ghosts D) (file path : List ℕ) (copied : Copied)
    (was now : List (DeskDeed D)) : Type 0 where
  pub read : FileRead D
  pub first : List (DeskDeed D)
  pub last : List (DeskDeed D)
  pub opens : first ≡ was ++ opened file Read (Ok read.source) ∷ []
  pub makes : MakesCopy disks (copy_places file path) read copied first last
  pub closes : now ≡ last ++ closed file read.after ∷ []

abbrev pub CopiesFile : {D : Type 0} → disk.Ghosts D → List ℕ → List ℕ → Result Copied Unbacked
    → List (DeskDeed D) → List (DeskDeed D) → Type 0
CopiesFile disks file path (Ok copied) was now = HasCopied disks file path copied was now
CopiesFile disks file path (Err why) was now = SparesFiles (copy_places file path) was now

-- The file beside a copy was written, which tells its sum.
abbrev pub WritesSum : {D : Type 0} → List ℕ → List ℕ → List ℕ → List (DeskDeed D)
    → List (DeskDeed D) → Type 0
WritesSum file path sum was now = WritesTarget (sum_places file path) (sum_line sum path) was now

-- The copy was made, and then its sum; and then old copies were taken away.
pub record CopiesWhole {D : Type 0} (disks : disk.Ghosts D) (file path : List ℕ)
    (Thins : List (DeskDeed D) → List (DeskDeed D) → Type 0) (was now : List (DeskDeed D)) : Type 0
  where
    pub copied : Copied
    pub made : List (DeskDeed D)
    pub summed : List (DeskDeed D)
    pub copies : HasCopied disks file path copied was made
    pub sums : WritesSum file path copied.sum made summed
    pub thins : Thins summed now

-- FILE was brought to rest, the next name was found for the copy, and that was done.
pub record BacksUp {D : Type 0} (disks : disk.Ghosts D) (file copy : List ℕ) (keep : Option ℕ)
    (was now : List (DeskDeed D)) : Type 0 where
  pub number : ℕ
  pub rested : List (DeskDeed D)
  pub begun : List (DeskDeed D)
  pub rests : Did was rested (IsUnasked disks file)
  pub asks : FindsNextCopy copy number rested begun
  pub copies : CopiesWhole disks file (numbered_copy copy number) (ThinsBy file copy number keep)
      begun now

-- WHAT IS PRINTED: which name the copy got, where that is not COPY
abbrev pub TellsCopyName : List ℕ → ℕ → Streams → ℕ → Type 0
TellsCopyName copy zero streams status = IsSilent streams × (status ≡ 0)
TellsCopyName copy (suc before) streams status = PrintsOrNot streams
    (codes "the copy is " ++ numbered_copy copy (suc before) ++ codes "\n") status

-- A copy was made, and its name was told; or the status says that something was not done.
abbrev pub Backs : {D : Type 0} → disk.Ghosts D → List ℕ → List ℕ → Option ℕ → Scene D → Type 0
Backs disks file copy keep scene = ((done : BacksUp disks file copy keep scene.was scene.now)
    × TellsCopyName copy done.number scene.streams scene.status)
    ⊎ (IsSilent scene.streams × (scene.status ≢ 0))
