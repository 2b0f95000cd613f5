-- What a drive was asked, and what it gave.
use Rattle.std.specs.Prelude.{ℕ, List, Result}
use Rattle.tune_disk.specs.declared.disk.DeviceFault.{DeviceFault}

-- one thing that was asked of a drive, by the bytes of a path
pub data Deed (D : Type 0) : Type 0 where
  -- to open a file as it is, with this answer
  opened : List ℕ → Result D DeviceFault → Deed D
  -- to open it, or to make it where nothing was there, with this answer
  created : List ℕ → Result D DeviceFault → Deed D
  -- to close this disk
  closed : List ℕ → D → Deed D
