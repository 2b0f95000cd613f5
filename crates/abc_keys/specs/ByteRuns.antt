-- Runs of bytes.
use Rattle.std.specs.Prelude.{◌≡◌, ℕ, Bool, true, false, List}
use Rattle.std.specs.List.{list_all}
use Rattle.abc_fields.specs.Bytes.{begins}

-- bytes that pass, as many as there are: this rest begins with no further one
pub record IsRun (passes : ℕ → Bool) (run rest : List ℕ) : Type 0 where
  pub all : list_all passes run ≡ true
  pub ends : begins passes rest ≡ false
