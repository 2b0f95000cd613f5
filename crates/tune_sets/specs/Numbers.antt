-- The numbers at the places of a set.
use Rattle.std.specs.Prelude.{ℕ, List, length, Bool, map, ◌&&◌, ◌==◌, nat_lt, nat_le}
use Rattle.std.specs.Prelude.{if◌then◌else◌}
use Rattle.std.specs.List.{list_any}

-- the number to which this one goes where one number becomes another
abbrev pub renumbered : ℕ → ℕ → ℕ → ℕ
renumbered from to number = if number == from then to else number

abbrev pub renumbered_all : ℕ → ℕ → List ℕ → List ℕ
renumbered_all from to numbers = map (renumbered from to) numbers

-- whether a number is among these
abbrev pub is_among : ℕ → List ℕ → Bool
is_among number numbers = list_any (λ n. n == number) numbers

-- whether there is this place among the numbers; places count from 1
abbrev pub has_place : ℕ → List ℕ → Bool
has_place place numbers = nat_lt 0 place && nat_le place (length numbers)
