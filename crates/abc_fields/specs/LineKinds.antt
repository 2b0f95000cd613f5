-- What kinds of lines there are (ABC 2.1, 2.2, 3.1 and 3.3; own profile for `%%begin` and `%%end`
-- with every word).
use Rattle.std.specs.Prelude.{ℕ, List, ◌∷◌, codes, Bool, false, not, ◌==◌, ◌&&◌, if◌then◌else◌}
use Rattle.std.specs.List.{fold}
use Rattle.std.specs.Char.{is_ascii_alphabetic}
use Rattle.abc_fields.specs.Bytes.{colon, begins_with}

-- a field: a letter directly before a colon
abbrev pub is_field_line : List ℕ → Bool
is_field_line (letter ∷ byte ∷ text) = is_ascii_alphabetic letter && byte == colon
is_field_line _ = false

-- a line that goes on with the field above it
abbrev pub is_continuation : List ℕ → Bool
is_continuation line = begins_with line (codes "+:")

-- a comment, or a directive, which begins with two percent signs
abbrev pub is_comment : List ℕ → Bool
is_comment line = begins_with line (codes "%")

-- a line that begins a part of another kind, as typeset text
abbrev pub begins_part : List ℕ → Bool
begins_part line = begins_with line (codes "%%begin")

-- a line that ends such a part
abbrev pub ends_part_line : List ℕ → Bool
ends_part_line line = begins_with line (codes "%%end")

-- whether the line after this one lies within a part, where this one does or does not
abbrev pub in_part_after : Bool → List ℕ → Bool
in_part_after inside line = if inside then not (ends_part_line line) else begins_part line

-- whether a part is open after these lines, before which none is
abbrev pub part_open_after : List (List ℕ) → Bool
part_open_after lines = fold in_part_after false lines
