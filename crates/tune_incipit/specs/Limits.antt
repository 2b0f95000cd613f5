-- How many notes an incipit may be asked by (this archive's profile).
use Rattle.std.specs.Prelude.{ℕ}

abbrev pub fewest_notes : ℕ
fewest_notes = 2

abbrev pub most_notes : ℕ
most_notes = 12
