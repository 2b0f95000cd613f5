-- Runs of writes that spare some of the bytes.
use Rattle.std.specs.Prelude.{◌≡◌, ℕ, ◌<◌, ◌≤◌, List, [], ◌∷◌, ◌++◌, length, slice_index}
use Rattle.tune_disk.specs.Disk.{Medium, Untouched, DiskState}

-- each offset that is kept stays untouched, over the same stable content
pub record KeepsOffsets (Kept : ℕ → Type 0) (old new : Medium) : Type 0 where
  pub stable : new.stable ≡ old.stable
  pub untouched : (i : ℕ) → Kept i → Untouched old.written i → Untouched new.written i

abbrev pub EachKeepsOffsets : (ℕ → Type 0) → Medium → List Medium → Type 0
EachKeepsOffsets Kept old [] = Unit {0}
EachKeepsOffsets Kept old (m ∷ ms) = KeepsOffsets Kept old m × EachKeepsOffsets Kept old ms

-- Since old there were writes alone, and none to an offset that is kept.
pub record SparesOffsets (Kept : ℕ → Type 0) (old new : DiskState) : Type 0 where
  pub since : List Medium
  pub history : new.now ∷ new.past ≡ since ++ (old.now ∷ old.past)
  pub each : EachKeepsOffsets Kept old.now since
  pub now : KeepsOffsets Kept old.now new.now
  pub longer : length old.seen ≤ length new.seen
  pub seen : (i : ℕ) → Kept i → slice_index new.seen i ≡ slice_index old.seen i

-- the other file is at least as long, and the same at each offset that is kept
pub record Agrees (Kept : ℕ → Type 0) (file other : List ℕ) : Type 0 where
  pub longer : length file ≤ length other
  pub same : (i : ℕ) → i < length file → Kept i → slice_index other i ≡ slice_index file i
