-- What contracts see of a journal and of the states of a commit: a disk, and the lists of pages
-- that stand on it.
use Rattle.std.specs.Prelude.{ℕ, List, Result, Ok, Err}
use Rattle.tune_journal.specs.declared.open_fault.Broken.{Broken}
use Rattle.tune_journal.specs.declared.open_fault.Refused.{Refused}

-- a list of pages on a disk
pub record Held (D : Type 0) : Type 0 where
  pub disk : D
  pub pages : List (List ℕ)

-- a list of pages on a disk, the changes that a log beside them holds, and the list that these make
pub record Staged (D : Type 0) : Type 0 where
  pub disk : D
  pub pages : List (List ℕ)
  pub changes : List (ℕ × List ℕ)
  pub next : List (List ℕ)

-- a list of pages that is decided, and the changes whose images are still to be put at their
-- offsets
pub record Decided (D : Type 0) : Type 0 where
  pub disk : D
  pub pages : List (List ℕ)
  pub changes : List (ℕ × List ℕ)

-- The disk that a call answers, in a journal or on its own.
abbrev pub disk_of : {D : Type 0} → Result (Held D) (Broken D) → D
disk_of (Ok held) = held.disk
disk_of (Err broken) = broken.disk

-- the same of an answer of `log`
abbrev pub disk_of_log : {D : Type 0} → Result (Staged D) (Broken D) → D
disk_of_log (Ok staged) = staged.disk
disk_of_log (Err broken) = broken.disk

-- of `open_gate`
abbrev pub disk_of_gate : {D : Type 0} → Result (Decided D) (Broken D) → D
disk_of_gate (Ok decided) = decided.disk
disk_of_gate (Err broken) = broken.disk

-- of `make` and `open`
abbrev pub disk_of_opening : {D : Type 0} → Result (Held D) (Refused D) → D
disk_of_opening (Ok held) = held.disk
disk_of_opening (Err refused) = refused.disk
