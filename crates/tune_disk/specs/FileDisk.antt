-- What a `FileDisk` stands for. Its history is that of what was handed in at the opening, of a type
-- `H` whose values stand for histories.
use Rattle.std.specs.Prelude.{◌≡◌, ℕ, [], IsTrue}
use Rattle.tune_disk.specs.Disk.{DiskState, MayLeave}
use Rattle.tune_disk.specs.FileTold.{History, at_opening, course, AnswersFit}
use Rattle.tune_disk.specs.declared.file.FileDisk.{FileDisk}

abbrev pub file_history : {H : Type 0} → (H → History) → FileDisk H → History
file_history history disk = history disk.history.value

abbrev pub file_state : {H : Type 0} → (H → History) → FileDisk H → DiskState
file_state history disk =
    let h = file_history history disk in (course h (at_opening h) disk.log.items).state

-- how often a call has failed
abbrev pub file_failures : {H : Type 0} → FileDisk H → ℕ
file_failures disk = disk.faults.count

-- All that the file told fits what it stood for, from the opening on.
pub record FileIsHonest {H : Type 0} (history : H → History) (disk : FileDisk H) : Type 0 where
  pub opened : (let h = file_history history disk in MayLeave h.opened.now h.opened.seen)
  pub told : (let h = file_history history disk in
      AnswersFit h (at_opening h) disk.log.items)

-- A sync of this disk has failed, and that is final: each later call is a fault.
abbrev pub SyncHasFailed : {H : Type 0} → FileDisk H → Type 0
SyncHasFailed disk = IsTrue disk.sync_failed

-- The file has told nothing yet, and no call has failed.
pub record HasJustOpened {H : Type 0} (disk : FileDisk H) : Type 0 where
  pub told : disk.log.items ≡ []
  pub failed : disk.faults.count ≡ 0
  pub synced : SyncHasFailed disk → ⊥
