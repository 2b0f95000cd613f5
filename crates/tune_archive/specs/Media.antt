-- Which files a stop (a crash or power loss) may have left since some moment of a disk.
use Rattle.std.specs.Prelude.{◌≡◌, ℕ, ◌≤◌, List, ◌∷◌, ◌++◌, length}
use Rattle.tune_disk.specs.Disk.{Medium, MayLeave, DiskState}
use Rattle.tune_disk.specs.Stops.{SinceThen}
use Rattle.tune_contents.specs.FilePages.{UseFewer}

-- how far a disk has come: how many media lie behind it
abbrev pub moment_of : DiskState → ℕ
moment_of disk = length disk.past

-- A stop at that moment may have left this file: the medium of then may leave it.
pub record LeftAt (disk : DiskState) (at : ℕ) (file : List ℕ) : Type 0 where
  pub newer : List Medium
  pub medium : Medium
  pub older : List Medium
  pub history : disk.now ∷ disk.past ≡ newer ++ medium ∷ older
  pub is_then : length older ≡ at
  pub left : MayLeave medium file

-- a stop at that moment, or since then, may have left this file: a medium of then may leave it
pub record LeftFrom (disk : DiskState) (since : ℕ) (file : List ℕ) : Type 0 where
  pub newer : List Medium
  pub medium : Medium
  pub older : List Medium
  pub history : disk.now ∷ disk.past ≡ newer ++ medium ∷ older
  pub later : since ≤ length older
  pub left : MayLeave medium file

-- a file that a stop leaves at any moment since then, and one that it would have left then, have
-- fewer pages than these in use together
abbrev pub UseFewerSince : ℕ → DiskState → DiskState → Type 0
UseFewerSince most old new = SinceThen old new (λ after. (before : List ℕ)
    → MayLeave old.now before → UseFewer most before after)
