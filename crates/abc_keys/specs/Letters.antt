-- Which bytes name letters and accidentals, and what accidentals add (ABC 2.1, 4.1 and 4.2).
use Rattle.std.specs.Prelude.{ℕ, if◌then◌else◌, List, codes, Option, Some, None, ℤ, pos}
use Rattle.std.specs.Prelude.{negsuc}
use Rattle.abc_fields.specs.Bytes.{is_one_of}
use Rattle.abc_keys.specs.declared.letters.Letter.{Letter}
use Rattle.abc_keys.specs.declared.letters.Letter.TheVariants.{C, D, E, F, G, A, B}
use Rattle.abc_keys.specs.declared.letters.Accidental.{Accidental}
use Rattle.abc_keys.specs.declared.letters.Accidental.TheVariants.{DoubleFlat, Flat, Natural, Sharp}
use Rattle.abc_keys.specs.declared.letters.Accidental.TheVariants.{DoubleSharp}

-- LETTERS
-- the letter that a byte names
abbrev pub letter_of : ℕ → Option Letter
letter_of byte =
    if is_one_of (codes "Cc") byte then Some C
    else if is_one_of (codes "Dd") byte then Some D
    else if is_one_of (codes "Ee") byte then Some E
    else if is_one_of (codes "Ff") byte then Some F
    else if is_one_of (codes "Gg") byte then Some G
    else if is_one_of (codes "Aa") byte then Some A
    else if is_one_of (codes "Bb") byte then Some B
    else None

-- ACCIDENTALS
-- the semitones that an accidental adds
abbrev pub semitones_of : Accidental → ℤ
semitones_of DoubleFlat = negsuc 1
semitones_of Flat = negsuc 0
semitones_of Natural = pos 0
semitones_of Sharp = pos 1
semitones_of DoubleSharp = pos 2

-- how an accidental is written
abbrev pub spelling : Accidental → List ℕ
spelling DoubleFlat = codes "__"
spelling Flat = codes "_"
spelling Natural = codes "="
spelling Sharp = codes "^"
spelling DoubleSharp = codes "^^"

-- the accidental of one byte
abbrev pub accidental_of : ℕ → Option Accidental
accidental_of byte =
    if is_one_of (codes "^") byte then Some Sharp
    else if is_one_of (codes "_") byte then Some Flat
    else if is_one_of (codes "=") byte then Some Natural
    else None

-- the accidental of two bytes, from that of the first one and the second one
abbrev pub doubled : Accidental → ℕ → Option Accidental
doubled Sharp byte = if is_one_of (codes "^") byte then Some DoubleSharp else None
doubled Flat byte = if is_one_of (codes "_") byte then Some DoubleFlat else None
doubled _ byte = None
