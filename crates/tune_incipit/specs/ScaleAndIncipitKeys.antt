-- The keys at which a tune stands in an index of scales and in one of incipits (own profile).
use Rattle.std.specs.Prelude.{ℕ, ℤ, pos, ◌+ℤ◌, ◌*◌, List, [], ◌∷◌, ◌++◌, Option, None, Some, codes}
use Rattle.std.specs.Int.{w32, cast_unsigned, to_be_bytes}
use Rattle.std.specs.List.{flat_map}
use Rattle.abc_fields.specs.Fields.{key_text_of}
use Rattle.abc_keys.specs.declared.letters.Letter.{Letter}
use Rattle.abc_keys.specs.declared.letters.Letter.TheVariants.{C, D, E, F, G, A, B}
use Rattle.abc_keys.specs.declared.scales.Sign.{Sign}
use Rattle.abc_keys.specs.declared.scales.Sign.TheVariants.{Natural, Sharp, Flat}
use Rattle.abc_keys.specs.declared.scales.Mode.{Mode}
use Rattle.abc_keys.specs.declared.scales.Mode.TheVariants.{Major, Lydian, Mixolydian, Dorian}
use Rattle.abc_keys.specs.declared.scales.Mode.TheVariants.{Minor, Phrygian, Locrian}
use Rattle.abc_keys.specs.declared.scales.Scale.{Scale}
use Rattle.index_keys.specs.Cuts.{cut_number}
use Rattle.tune_incipit.specs.Incipits.{incipit_of, tune_notes}
use Rattle.tune_incipit.specs.Scales.{scale_of_text}

-- SCALES
-- the tonic's letter
abbrev pub tonic_code : Letter → List ℕ
tonic_code C = codes "C"
tonic_code D = codes "D"
tonic_code E = codes "E"
tonic_code F = codes "F"
tonic_code G = codes "G"
tonic_code A = codes "A"
tonic_code B = codes "B"

-- its sign, or a space
abbrev pub sign_code : Sign → List ℕ
sign_code Flat = codes "b"
sign_code Natural = codes " "
sign_code Sharp = codes "#"

-- the digit of its mode: how far above C the mode's scale of white keys begins
abbrev pub mode_code : Mode → List ℕ
mode_code Major = codes "0"
mode_code Dorian = codes "1"
mode_code Phrygian = codes "2"
mode_code Lydian = codes "3"
mode_code Mixolydian = codes "4"
mode_code Minor = codes "5"
mode_code Locrian = codes "6"

-- the three of them
abbrev pub scale_code : Scale → List ℕ
scale_code scale = tonic_code scale.tonic ++ (sign_code scale.sign ++ mode_code scale.mode)

-- the key of a scale: 32 bytes, the three of its code and zeros
abbrev pub scale_key : Scale → ℕ
scale_key scale = cut_number 32 0 (scale_code scale)

-- that of a scale that may be missing
abbrev pub scale_keys_of : Option Scale → List ℕ
scale_keys_of None = []
scale_keys_of (Some scale) = scale_key scale ∷ []

-- the keys of a tune's text: that of its scale, where it has one
abbrev pub scale_keys : List ℕ → List ℕ
scale_keys text = scale_keys_of (scale_of_text (key_text_of text))

-- INCIPITS
-- a step, and 2 ^ 31, in four bytes, the highest first: so the order of bytes is that of steps
abbrev pub step_bytes : ℤ → List ℕ
step_bytes step = to_be_bytes w32 (cast_unsigned w32 (step +ℤ pos 2147483648))

-- those of steps, one after another
abbrev pub bytes_of_steps : List ℤ → List ℕ
bytes_of_steps steps = flat_map step_bytes steps

-- the keys of so many bytes of an incipit: one, but of no step there is none
abbrev pub incipit_keys_of : ℕ → List ℤ → List ℕ
incipit_keys_of width [] = []
incipit_keys_of width (step ∷ steps) = cut_number width 0 (bytes_of_steps (step ∷ steps)) ∷ []

-- the keys of a tune's text by its first so many notes that count: four bytes for each note, of
-- which the steps between them fill all but the last four
abbrev pub incipit_keys : ℕ → List ℕ → List ℕ
incipit_keys notes text = incipit_keys_of (4 * notes) (incipit_of notes (tune_notes text))
