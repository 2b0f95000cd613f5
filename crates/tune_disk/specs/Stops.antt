-- What stops (crashes or power losses) may leave over runs of calls of a disk.
use Rattle.std.specs.Prelude.{◌≡◌, ℕ, ◌+◌, ◌≤◌, List, [], ◌∷◌, ◌++◌}
use Rattle.tune_disk.specs.Disk.{Medium, MayLeave, DiskState}

-- a stop leaves files of this kind alone
abbrev pub LeavesOnly : Medium → (List ℕ → Type 0) → Type 0
LeavesOnly m P = (file : List ℕ) → MayLeave m file → P file

abbrev pub EachLeavesOnly : List Medium → (List ℕ → Type 0) → Type 0
EachLeavesOnly [] P = Unit {0}
EachLeavesOnly (m ∷ ms) P = LeavesOnly m P × EachLeavesOnly ms P

-- A stop at any moment since old, this one included, leaves files of this kind alone.
pub record SinceThen (old new : DiskState) (P : List ℕ → Type 0) : Type 0 where
  pub since : List Medium
  pub history : new.now ∷ new.past ≡ since ++ (old.now ∷ old.past)
  pub each : EachLeavesOnly since P
  pub first : LeavesOnly old.now P

-- the range of so many bytes at one offset lies within the range at another
abbrev pub IsWithinRange : ℕ → ℕ → ℕ → ℕ → Type 0
IsWithinRange part_at part at n = (at ≤ part_at) × (part_at + part ≤ at + n)
