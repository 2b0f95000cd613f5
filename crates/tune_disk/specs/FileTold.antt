-- What a file of the operating system told, one answer after another, and what it then stands for.
use Rattle.std.specs.Prelude.{◌≡◌, ℕ, ◌+◌, ◌≤◌, List, [], ◌∷◌, ◌++◌, length, slice_index, get_or}
use Rattle.tune_disk.specs.ByteWrites.{put}
use Rattle.tune_disk.specs.Disk.{DiskState, Torn, touched, settled}
use Rattle.tune_disk.specs.declared.file.told.Told.{Told}
use Rattle.tune_disk.specs.declared.file.told.Told.TheVariants.{Length, Byte, Ended, Begun, Put}
use Rattle.tune_disk.specs.declared.file.told.Told.TheVariants.{Wrote, Broke, Synced}

-- What nothing that a file tells says of it.
pub record History : Type 0 where
  -- when the file was opened: what a read gave, and what a stop might leave
  pub opened : DiskState
  -- what the file held after each write that failed, in their order
  pub broken : List (List ℕ)

-- A file as it goes on: what it stands for, the bytes that it took of the write in hand, and how
-- many writes have failed.
pub record Course : Type 0 where
  pub state : DiskState
  pub hand : List ℕ
  pub failed : ℕ

abbrev pub at_opening : History → Course
at_opening h = record { state = h.opened; hand = []; failed = 0 }

-- the state after a write of so many bytes at an offset, which left this content
abbrev pub after_write : ℕ → ℕ → List ℕ → DiskState → DiskState
after_write at n content s =
    record { seen = content; now = touched at n s.now; past = s.now ∷ s.past }

abbrev pub after_sync : DiskState → DiskState
after_sync s = record { seen = s.seen; now = settled s.seen; past = s.now ∷ s.past }

-- the file after it told this of an offset
abbrev pub told_at : History → ℕ → Told → Course → Course
told_at h at (Length n) c = c
told_at h at (Byte b) c = c
told_at h at Ended c = c
told_at h at Begun c = record { state = c.state; hand = []; failed = c.failed }
told_at h at (Put b) c = record { state = c.state; hand = c.hand ++ b ∷ []; failed = c.failed }
told_at h at Wrote c = record {
  state = after_write at (length c.hand) (put at c.hand c.state.seen) c.state;
  hand = c.hand;
  failed = c.failed;
}
told_at h at (Broke n) c = record {
  state = after_write at n (get_or h.broken c.failed []) c.state;
  hand = c.hand;
  failed = c.failed + 1;
}
told_at h at Synced c = record { state = after_sync c.state; hand = c.hand; failed = c.failed }

-- and after all of these, the first first
abbrev pub course : History → Course → List (ℕ × Told) → Course
course h c [] = c
course h c (one ∷ more) = course h (told_at h one.0 one.1 c) more

-- what is told of an offset fits what the file stands for
abbrev pub AnswerFits : History → Course → ℕ → Told → Type 0
AnswerFits h c at (Length n) = n ≡ length c.state.seen
AnswerFits h c at (Byte b) = b ≡ slice_index c.state.seen at
AnswerFits h c at Ended = length c.state.seen ≤ at
AnswerFits h c at Begun = Unit {0}
AnswerFits h c at (Put b) = Unit {0}
AnswerFits h c at Wrote = Unit {0}
AnswerFits h c at (Broke n) = Torn at n c.state.seen (get_or h.broken c.failed [])
AnswerFits h c at Synced = Unit {0}

-- each of these does, where the file stands when it is told
abbrev pub AnswersFit : History → Course → List (ℕ × Told) → Type 0
AnswersFit h c [] = Unit {0}
AnswersFit h c (one ∷ more) =
    AnswerFits h c one.0 one.1 × AnswersFit h (told_at h one.0 one.1 c) more
