-- Images that end in zeros.
use Rattle.std.specs.Prelude.{◌≡◌, ℕ, ◌-◌, ◌≤◌, List, drop, replicate}
use Rattle.tune_journal.specs.FileOffsets.{block_bytes}

-- all bytes of the image from this one on are zeros
pub record IsBlankFrom (used : ℕ) (image : List ℕ) : Type 0 where
  pub within : used ≤ block_bytes
  pub zeros : drop used image ≡ replicate (block_bytes - used) 0
