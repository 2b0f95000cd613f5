-- The bytes that the table of items names.
use Rattle.std.specs.Prelude.{ℕ, ◌==◌, Bool, not, List, [], ◌∷◌, codes}
use Rattle.std.specs.List.{list_all}
use Rattle.abc_fields.specs.Bytes.{colon, is_one_of}

-- MARKS
-- `"`
abbrev pub quotation_mark : ℕ
quotation_mark = 34

-- `!`
abbrev pub exclamation_mark : ℕ
exclamation_mark = 33

-- `+`
abbrev pub plus_sign : ℕ
plus_sign = 43

-- `{`
abbrev pub opening_brace : ℕ
opening_brace = 123

-- `}`
abbrev pub closing_brace : ℕ
closing_brace = 125

-- `[`
abbrev pub opening_bracket : ℕ
opening_bracket = 91

-- `]`
abbrev pub closing_bracket : ℕ
closing_bracket = 93

-- `(`
abbrev pub opening_parenthesis : ℕ
opening_parenthesis = 40

-- `|`
abbrev pub bar_mark : ℕ
bar_mark = 124

-- `^`, `_` and `=`, which write a note's own accidental
abbrev pub sharp_sign : ℕ
sharp_sign = 94

abbrev pub flat_sign : ℕ
flat_sign = 95

abbrev pub natural_sign : ℕ
natural_sign = 61

-- TESTS OF BYTES
-- the byte that stands between the numbers of a tuplet
abbrev pub is_colon : ℕ → Bool
is_colon byte = byte == colon

-- the byte that ends a chord and an inline field
abbrev pub is_closing_bracket : ℕ → Bool
is_closing_bracket byte = byte == closing_bracket

-- a bar line is read byte by byte, at each of these (ABC 2.1, 4.8; own profile)
abbrev pub is_bar : ℕ → Bool
is_bar byte = is_one_of (bar_mark ∷ colon ∷ []) byte

-- a mark that sets a note's octave (ABC 2.1, 4.1)
abbrev pub is_octave_mark : ℕ → Bool
is_octave_mark byte = is_one_of (codes ",'") byte

-- a byte that may stand in a chord (ABC 2.1, 4.17; own profile)
abbrev pub is_chord_byte : ℕ → Bool
is_chord_byte byte = not (is_one_of (codes "[]|") byte)

-- no byte of the text is this one
abbrev pub has_no : ℕ → List ℕ → Bool
has_no mark text = list_all (λ byte. not (byte == mark)) text
