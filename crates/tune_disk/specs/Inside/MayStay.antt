-- What a read gives is one of the files that a stop may leave.
use Rattle.std.specs.Prelude.{ℕ, List}
use Rattle.tune_disk.specs.Disk.{DiskState, MayLeave}
use Rattle.tune_disk.specs.FileTold.{History, at_opening, course, AnswersFit}
use Rattle.tune_disk.specs.declared.file.told.Told.{Told}

-- so it is in this state of a disk
abbrev pub SeenMayStay : DiskState → Type 0
SeenMayStay s = MayLeave s.now s.seen

-- so it stays, whatever the history of a file, while what it tells fits
abbrev pub TellingMayStay : List (ℕ × Told) → Type 0
TellingMayStay log = (h : History) → SeenMayStay h.opened → AnswersFit h (at_opening h) log
    → SeenMayStay (course h (at_opening h) log).state
