-- What the header of a tune says (ABC 2.1, 3.1; own profile where the standard is silent).
use Rattle.std.specs.Prelude.{◌≡◌, ℕ, List, [], ◌∷◌, ◌++◌, take, drop, map, codes, slice_get}
use Rattle.std.specs.Prelude.{length, unwrap_or}
use Rattle.std.specs.Prelude.{Option, Bool, true, false, if◌then◌else◌}
use Rattle.std.specs.List.{filter}
use Rattle.abc_fields.specs.Bytes.{begins_with}
use Rattle.abc_fields.specs.Lines.{Span, lines_of, spans_of}
use Rattle.abc_fields.specs.Tunes.{is_key_line, has_key}
use Rattle.abc_fields.specs.Values.{field_value}
use Rattle.abc_fields.specs.Limits.{most_titles}

-- the lines up to the first that gives the key, that one included (ABC 2.1, 3.1.14)
abbrev pub header_of : List (List ℕ) → List (List ℕ)
header_of [] = []
header_of (line ∷ lines) = if is_key_line line then line ∷ [] else line ∷ header_of lines

-- the values of the lines that begin with this name and its colon, in order
abbrev pub values_of : List ℕ → List (List ℕ) → List (List ℕ)
values_of name lines = map field_value (filter (λ line. begins_with line name) lines)

-- whether a value has a byte
abbrev pub has_bytes : List ℕ → Bool
has_bytes [] = false
has_bytes (byte ∷ value) = true

-- those of the values that are not empty
abbrev pub non_empty : List (List ℕ) → List (List ℕ)
non_empty values = filter has_bytes values

-- the values that are not empty, of the lines that begin with this name and its colon
abbrev pub non_empty_values : List ℕ → List (List ℕ) → List (List ℕ)
non_empty_values name lines = non_empty (values_of name lines)

-- the same for the header of a text
abbrev pub header_values : List ℕ → List ℕ → List (List ℕ)
header_values name text = non_empty_values name (header_of (lines_of text))

-- the titles: the first ones count, as many as the limit says (ABC 2.1, 3.1.2; own profile)
abbrev pub titles_of : List ℕ → List (List ℕ)
titles_of text = take most_titles (header_values (codes "T:") text)

-- the rhythm, if there is one (ABC 2.1, 3.1; own profile)
abbrev pub rhythm_of : List ℕ → Option (List ℕ)
rhythm_of text = slice_get (header_values (codes "R:") text) 0

-- the value of the first of these lines that gives the key, where one does
abbrev pub first_key : List (List ℕ) → List ℕ
first_key lines = unwrap_or (slice_get (values_of (codes "K:") lines) 0) []

-- the value of the first line that gives the key (ABC 2.1, 3.1.14), which a tune text has
abbrev pub key_text_of : List ℕ → List ℕ
key_text_of text = first_key (lines_of text)

-- the header of these lines ends with the first line that gives the key, and this is its value
pub record HeaderEndsWithKey (lines : List (List ℕ)) (key : List ℕ) : Type 0 where
  pub before : List (List ℕ)
  pub line : List ℕ
  pub header : before ++ line ∷ [] ≡ header_of lines
  pub none_before : has_key before ≡ false
  pub gives_key : is_key_line line ≡ true
  pub value : field_value line ≡ key

-- the lines after the header of a text, and where they begin and end in it
abbrev pub body_spans : List ℕ → List Span
body_spans text = drop (length (header_of (lines_of text))) (spans_of text)
