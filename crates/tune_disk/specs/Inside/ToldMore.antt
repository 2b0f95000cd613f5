-- What further answers of a file say of it, whatever it stood for before.
use Rattle.std.specs.Prelude.{◌≡◌, ℕ, ◌+◌, ◌<◌, List, ◌++◌, length, slice_index}
use Rattle.tune_disk.specs.ByteWrites.{put}
use Rattle.tune_disk.specs.Disk.{Torn}
use Rattle.tune_disk.specs.FileTold.{History, Course, course, AnswersFit, after_write}
use Rattle.tune_disk.specs.declared.file.told.Told.{Told}

-- What was told before fits where all does, and the file stands for the same.
pub record IsToldMore (old new : List (ℕ × Told)) : Type 0 where
  pub fits : (h : History) (c : Course) → AnswersFit h c new → AnswersFit h c old
  pub state : (h : History) (c : Course) → (course h c new).state ≡ (course h c old).state

-- So it is, and the first n of these bytes are those that stand there.
pub record IsToldRead (at n : ℕ) (bytes : List ℕ) (old new : List (ℕ × Told)) : Type 0 where
  pub more : IsToldMore old new
  pub shown : (h : History) (c : Course) → AnswersFit h c new → (k : ℕ) → k < n
      → slice_index bytes k ≡ slice_index (course h c old).state.seen (at + k)

-- What was told before fits where all does, and these bytes were written.
pub record IsToldWrite (at : ℕ) (bytes : List ℕ) (old new : List (ℕ × Told)) : Type 0 where
  pub fits : (h : History) (c : Course) → AnswersFit h c new → AnswersFit h c old
  pub state : (h : History) (c : Course) → (course h c new).state
      ≡ after_write at (length bytes) (put at bytes (course h c old).state.seen)
      (course h c old).state

-- A write of so many bytes failed, and left what the history says.
pub record IsToldBroken (at n : ℕ) (old new : List (ℕ × Told)) : Type 0 where
  pub fits : (h : History) (c : Course) → AnswersFit h c new → AnswersFit h c old
  pub state : (h : History) (c : Course) → AnswersFit h c new → (content : List ℕ)
      × (Torn at n (course h c old).state.seen content
      × ((course h c new).state ≡ after_write at n content (course h c old).state))

-- The file stands for the same, and took these bytes behind those of the write in hand.
pub record IsToldTaken (bytes : List ℕ) (old new : List (ℕ × Told)) : Type 0 where
  pub more : IsToldMore old new
  pub hand : (h : History) (c : Course)
      → (course h c new).hand ≡ (course h c old).hand ++ bytes
