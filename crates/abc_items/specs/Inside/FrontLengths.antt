-- The lengths of fronts of a text.
use Rattle.std.specs.Prelude.{ℕ, ◌<◌, ◌≤◌, List, length, Option, IfSome}

-- a length that is found is that of a front with a byte
abbrev pub IsFrontLength : List ℕ → Option ℕ → Type 0
IsFrontLength text found = IfSome found (λ n. (0 < n) × (n ≤ length text))
