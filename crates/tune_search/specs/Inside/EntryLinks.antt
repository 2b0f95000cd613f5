-- Where the entries of a number stand, one after another.
use Rattle.std.specs.Prelude.{◌≡◌, ℕ, ◌+◌, ◌<◌, ◌==◌, List, [], ◌∷◌, drop, length, slice_index}
use Rattle.std.specs.Prelude.{if◌then◌else◌}
use Rattle.index_keys.specs.Entries.{Entry}
use Rattle.tune_index.specs.Leaves.{slice_entry}

-- the place of the first entry of a number, or how many entries there are
abbrev pub first_place : ℕ → List Entry → ℕ
first_place number [] = 0
first_place number (e ∷ es) = if e.1 == number then 0 else (first_place number es + 1)

-- the same from a place on
abbrev pub place_from : ℕ → ℕ → List Entry → ℕ
place_from number from es = from + first_place number (drop from es)

-- for each number the place of its first entry
pub record AreFirsts (numbers : List ℕ) (es : List Entry) (firsts : List ℕ) : Type 0 where
  pub long : length firsts ≡ length numbers
  pub each : (k : ℕ) → k < length numbers
      → slice_index firsts k ≡ place_from (slice_index numbers k) 0 es

-- for each entry the place of the next one of its number
pub record AreNexts (es : List Entry) (nexts : List ℕ) : Type 0 where
  pub long : length nexts ≡ length es
  pub each : (k : ℕ) → k < length es
      → slice_index nexts k ≡ place_from (slice_entry es k).1 (k + 1) es

-- the entries of each of the numbers are linked
pub record AreLinked (numbers : List ℕ) (es : List Entry) (first next : List ℕ) : Type 0 where
  pub firsts : AreFirsts numbers es first
  pub nexts : AreNexts es next
