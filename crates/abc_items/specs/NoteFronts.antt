-- How a note begins: with an accidental or none, and a byte that names a letter (ABC 2.1, 4.1 and
-- 4.2).
use Rattle.std.specs.Prelude.{ℕ, Bool, List, [], ◌∷◌, Option, None}
use Rattle.std.specs.Option.{option_map, is_some, unwrap_or}
use Rattle.abc_keys.specs.declared.letters.Accidental.{Accidental}
use Rattle.abc_keys.specs.Letters.{accidental_of, doubled, letter_of}

-- the accidental that a text begins with: one of two bytes before one of one byte
abbrev pub own_accidental : List ℕ → Option Accidental
own_accidental [] = None
own_accidental (first ∷ []) = accidental_of first
own_accidental (first ∷ second ∷ text) =
    option_map (λ accidental. unwrap_or (doubled accidental second) accidental)
    (accidental_of first)

-- a byte that names a letter
abbrev pub is_note_name : ℕ → Bool
is_note_name byte = is_some (letter_of byte)
