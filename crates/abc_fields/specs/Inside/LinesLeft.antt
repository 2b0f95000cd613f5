-- The lines that a reader of lines has left.
use Rattle.std.specs.Prelude.{◌≡◌, ◌≤◌, ℕ, List, ◌++◌, length, map, Bool, true, false}
use Rattle.std.specs.List.{AllByRecursion}
use Rattle.abc_fields.specs.Lines.{Span, lines_of}
use Rattle.abc_fields.specs.Tunes.{tune_run, tune_runs, joined, has_key, IsTuneLine}
use Rattle.abc_fields.specs.FileHeaders.{before_key}

-- the bytes of each of these lines
abbrev pub contents_of : List Span → List (List ℕ)
contents_of spans = map (λ s. s.bytes) spans

-- what is left to write of the lines of a tune, with these put before its key, where that has come
-- or has not
abbrev pub still : Bool → List (List ℕ) → List (List ℕ) → List (List ℕ)
still true put lines = lines
still false put lines = before_key put lines

-- these lines are left, where a reader of those went on within a tune or to its end
pub record IsRestAfter (old new : List (List ℕ)) : Type 0 where
  pub runs : tune_runs new ≡ tune_runs old
  pub fewer : length new ≤ length old
  pub shorter : length (joined new) ≤ length (joined old)

-- a reader of lines of a tune went over these
pub record AreRead (old gone new : List (List ℕ)) : Type 0 where
  pub whole : gone ++ new ≡ old
  pub run : gone ++ tune_run new ≡ tune_run old
  pub rest : IsRestAfter old new

-- a part of a text has these lines, and a line feed ends each
pub record HasLines (part : List ℕ) (contents : List (List ℕ)) : Type 0 where
  pub whole : joined contents ≡ part
  pub lines : lines_of part ≡ contents

-- the lines of a tune
pub record AreTuneLines (lines : List (List ℕ)) : Type 0 where
  pub each : AllByRecursion IsTuneLine lines
  pub key : has_key lines ≡ true
