-- Keys cut from bytes: the number of the first bytes, filled up with one byte (own profile).
use Rattle.std.specs.Prelude.{ℕ, zero, suc, ◌+◌, ◌*◌, ◌^◌, ◌%◌, ◌≤◌, List, [], ◌∷◌}

-- The number of a key of so many bytes: the first of these, and then this one again and again. A
-- byte is below 256; what is not counts as its lowest byte, so that the law of ranges has no
-- premise.
abbrev pub cut_number : ℕ → ℕ → List ℕ → ℕ
cut_number zero fill bytes = 0
cut_number (suc n) fill [] = fill * 256 ^ n + cut_number n fill []
cut_number (suc n) fill (byte ∷ bytes) = byte % 256 * 256 ^ n + cut_number n fill bytes

-- The key of a whole lies in the range of a front: from the front filled with zeros to the front
-- filled with 255.
pub record LiesWithin (width : ℕ) (front whole : List ℕ) : Type 0 where
  pub from : cut_number width 0 front ≤ cut_number width 0 whole
  pub to : cut_number width 0 whole ≤ cut_number width 255 front
