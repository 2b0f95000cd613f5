-- Where the lines of a header stand that give the titles, the rhythm and the key.
use Rattle.std.specs.Prelude.{◌≡◌, ◌≤◌, ◌<◌, ◌^◌, ◌+◌, ℕ, List, [], ◌∷◌, ◌++◌, length, map}
use Rattle.std.specs.Prelude.{take, slice_range, codes, Bool, true, ◌||◌, if◌then◌else◌, Option}
use Rattle.std.specs.Prelude.{None, Some}
use Rattle.abc_fields.specs.Bytes.{begins_with}
use Rattle.abc_fields.specs.Lines.{Span, spans_of}
use Rattle.abc_fields.specs.Tunes.{is_key_line}
use Rattle.abc_fields.specs.declared.told_lines.LinePlace.{LinePlace}
use Rattle.abc_fields.specs.declared.told_lines.ToldLines.{ToldLines}

-- how many of them are kept at most
abbrev pub most_told : ℕ
most_told = 4

-- whether a line gives a title or the rhythm
abbrev pub is_told : List ℕ → Bool
is_told line = begins_with line (codes "T:") || begins_with line (codes "R:")

-- two bytes say where a line begins, and where it ends
pub record IsShortSpan (line : Span) : Type 0 where
  pub from : line.from < 2 ^ 16
  pub to : line.to < 2 ^ 16

-- where such lines stand among these, before the first that gives the key
abbrev pub told_places : List Span → List LinePlace
told_places [] = []
told_places (line ∷ lines) =
    if is_key_line line.bytes then []
    else if is_told line.bytes then record { from = line.from; to = line.to } ∷ told_places lines
    else told_places lines

-- where the first line stands that gives the key
abbrev pub told_key : List Span → Option LinePlace
told_key [] = None
told_key (line ∷ lines) =
    if is_key_line line.bytes then Some (record { from = line.from; to = line.to })
    else told_key lines

-- the header of these lines has its titles, its rhythm and its key at these places
pub record AreTold (lines : List Span) (told : ToldLines) : Type 0 where
  pub few : told.count ≤ most_told
  pub places : take told.count told.places ≡ told_places lines
  pub key : told_key lines ≡ Some told.key

-- what is known of a text is that, or nothing
abbrev pub IsTold : List ℕ → ToldLines → Type 0
IsTold text told = told.count ≤ most_told → AreTold (spans_of text) told

-- one place more was put behind so many others, if there was room
abbrev pub IsPlaceKept : List LinePlace → ℕ → List LinePlace → ℕ → LinePlace → Type 0
IsPlaceKept old count new more place =
    more ≤ most_told → (count ≤ most_told) × (take more new ≡ take count old ++ place ∷ [])

-- where lines stand, of which the first begins at this index, and a line feed ends each
abbrev pub spans_at : ℕ → List (List ℕ) → List Span
spans_at at [] = []
spans_at at (line ∷ lines) =
    record { from = at; to = at + length line; bytes = line }
    ∷ spans_at (at + (length line + 1)) lines

-- what is known of the text of these lines is that, or nothing
abbrev pub IsToldOf : List (List ℕ) → ToldLines → Type 0
IsToldOf lines told = told.count ≤ most_told → AreTold (spans_at 0 lines) told

-- a line that gives a title or the rhythm stands here in a text
pub record IsToldAt (text : List ℕ) (place : LinePlace) : Type 0 where
  pub ordered : place.from ≤ place.to
  pub within : place.to ≤ length text
  pub told : is_told (slice_range text place.from place.to) ≡ true

-- the lines that stand at these places
abbrev pub lines_at : List ℕ → List LinePlace → List (List ℕ)
lines_at text places = map (λ place. slice_range text place.from place.to) places
