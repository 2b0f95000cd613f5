-- What follows of files that a stop may have left of a disk.
use Rattle.std.specs.Prelude.{ℕ, ◌≤◌, List}
use Rattle.std.proofs.Common.{sym, subst}
use Rattle.std.proofs.Math.Nat.{le_trans}
use Rattle.tune_disk.specs.Disk.{MayLeave, DiskState}
use Rattle.tune_disk.proofs.Moments.{left_by_present}
use Rattle.tune_archive.specs.Media.{moment_of, LeftAt, LeftFrom}

-- a stop now leaves what the present medium may leave
pub left_now : (disk : DiskState) (file : List ℕ) → LeftFrom disk (moment_of disk) file → MayLeave disk.now file
left_now disk file left = left_by_present disk.now disk.past left.newer left.medium left.older file left.history left.later left.left

-- what is left at a moment is left since each one before it
pub left_then : (disk : DiskState) (at since : ℕ) (file : List ℕ) → since ≤ at → LeftAt disk at file → LeftFrom disk since file
left_then disk at since file le left = record {
  newer = left.newer;
  medium = left.medium;
  older = left.older;
  history = left.history;
  later = subst (λ n. since ≤ n) (sym left.is_then) le;
  left = left.left;
}

-- what is left since a moment is left since an earlier one
pub left_before : (disk : DiskState) (since earlier : ℕ) (file : List ℕ) → earlier ≤ since → LeftFrom disk since file → LeftFrom disk earlier file
left_before disk since earlier file le left = record {
  newer = left.newer;
  medium = left.medium;
  older = left.older;
  history = left.history;
  later = le_trans le left.later;
  left = left.left;
}
