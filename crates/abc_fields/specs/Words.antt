-- The parts of a text round the bytes that a test passes, and the text without such bytes at its
-- ends.
use Rattle.std.specs.Prelude.{ℕ, List, [], ◌∷◌, Bool, true, if◌then◌else◌}
use Rattle.std.specs.List.{onto_first, list_all}
use Rattle.abc_fields.specs.Bytes.{is_blank}

-- whether a part ends here: a byte that the test passes comes, or nothing
abbrev pub ends_part : (ℕ → Bool) → List ℕ → Bool
ends_part test [] = true
ends_part test (byte ∷ text) = test byte

-- the longest runs of bytes that the test does not pass, in order
abbrev pub parts_by : (ℕ → Bool) → List ℕ → List (List ℕ)
parts_by test [] = []
parts_by test (byte ∷ text) =
    if test byte then parts_by test text
    else if ends_part test text then (byte ∷ []) ∷ parts_by test text
    else onto_first byte (parts_by test text)

-- the words of a line, between spaces and tabs
abbrev pub words_of : List ℕ → List (List ℕ)
words_of line = parts_by is_blank line

-- the text from the first byte on that the test does not pass
abbrev pub trimmed_front : (ℕ → Bool) → List ℕ → List ℕ
trimmed_front test [] = []
trimmed_front test (byte ∷ text) = if test byte then trimmed_front test text else byte ∷ text

-- the text up to the last byte that the test does not pass
abbrev pub trimmed_back : (ℕ → Bool) → List ℕ → List ℕ
trimmed_back test [] = []
trimmed_back test (byte ∷ text) =
    if list_all test (byte ∷ text) then [] else byte ∷ trimmed_back test text

-- the text without spaces and tabs at its ends
abbrev pub trimmed : List ℕ → List ℕ
trimmed text = trimmed_back is_blank (trimmed_front is_blank text)
