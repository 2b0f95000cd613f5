-- What a word leaves of a signature as the code reads it, byte by byte.
use Rattle.std.specs.Prelude.{ℕ, List, [], ◌∷◌, Option, Some, None}
use Rattle.std.specs.Option.{option_map_or}
use Rattle.abc_keys.specs.declared.letters.Accidental.{Accidental}
use Rattle.abc_keys.specs.declared.signatures.Signature.{Signature}
use Rattle.abc_keys.specs.Letters.{letter_of, accidental_of, doubled}
use Rattle.abc_keys.specs.Signatures.{with_accidental}

-- What a word leaves of a signature, where it consists of pairs of an accidental and a letter; an
-- accidental may stand directly before the word.
abbrev pub changed_by_pairs : Signature → Option Accidental → List ℕ → Option Signature
changed_by_pairs s None [] = Some s
changed_by_pairs s (Some accidental) [] = None
changed_by_pairs s None (byte ∷ word) =
    option_map_or (λ accidental. changed_by_pairs s (Some accidental) word)
    (accidental_of byte) None
changed_by_pairs s (Some accidental) (byte ∷ word) = option_map_or
    (λ letter. changed_by_pairs (with_accidental s letter accidental) None word) (letter_of byte)
    (option_map_or (λ twice. changed_by_pairs s (Some twice) word) (doubled accidental byte) None)
