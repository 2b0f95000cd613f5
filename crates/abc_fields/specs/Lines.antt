-- What the lines of a text are (ABC 2.1, 2.2): a text is a row of pieces, each a content and the
-- ending after it, and the contents are the lines.
use Rattle.std.specs.Prelude.{◌≡◌, ℕ, ◌+◌, ◌<◌, ◌≤◌, List, [], ◌∷◌, ◌++◌, length, map, codes}
use Rattle.std.specs.Prelude.{slice_range, slice_get, Some, Bool, true, false, not, ◌==◌, ◌||◌, ◌⊎◌}
use Rattle.std.specs.Prelude.{if◌then◌else◌, ⊤}
use Rattle.std.specs.List.{list_all}
use Rattle.abc_fields.specs.Bytes.{line_feed, carriage_return}

-- a content, and the bytes that end it
pub record Piece : Type 0 where
  pub content : List ℕ
  pub ending : List ℕ

-- a line feed or a carriage return
abbrev pub ends_line : ℕ → Bool
ends_line byte = byte == line_feed || byte == carriage_return

-- whether a text begins with a line feed
abbrev pub begins_with_feed : List ℕ → Bool
begins_with_feed [] = false
begins_with_feed (byte ∷ text) = byte == line_feed

-- THE PIECES, FROM THE TEXT'S END TO ITS FRONT
-- the byte goes to the front of the first content, which it makes where there is none
abbrev pub onto_content : ℕ → List Piece → List Piece
onto_content byte [] = record { content = byte ∷ []; ending = [] } ∷ []
onto_content byte (p ∷ ps) = record { content = byte ∷ p.content; ending = p.ending } ∷ ps

-- the byte goes to the front of the first ending
abbrev pub onto_ending : ℕ → List Piece → List Piece
onto_ending byte [] = record { content = []; ending = byte ∷ [] } ∷ []
onto_ending byte (p ∷ ps) = record { content = p.content; ending = byte ∷ p.ending } ∷ ps

-- an empty line that this byte ends
abbrev pub ended_by : ℕ → Piece
ended_by byte = record { content = []; ending = byte ∷ [] }

-- a carriage return, before a text with these pieces: it is of one ending with the line feed after
-- it, or ends a line alone
abbrev pub ended_by_return : List ℕ → List Piece → List Piece
ended_by_return text later =
    if begins_with_feed text then onto_ending carriage_return later
    else ended_by carriage_return ∷ later

-- a line feed ends a line, and so does a carriage return, alone or with the line feed that follows
-- it
abbrev pub pieces_of : List ℕ → List Piece
pieces_of [] = []
pieces_of (byte ∷ text) =
    if byte == line_feed then ended_by line_feed ∷ pieces_of text
    else if byte == carriage_return then ended_by_return text (pieces_of text)
    else onto_content byte (pieces_of text)

-- the lines of a text
abbrev pub lines_of : List ℕ → List (List ℕ)
lines_of text = map (λ p. p.content) (pieces_of text)

-- THE SAME IN A READER'S WORDS
-- the text that pieces make up
abbrev pub text_of : List Piece → List ℕ
text_of [] = []
text_of (p ∷ ps) = p.content ++ (p.ending ++ text_of ps)

-- no byte of the line is a line feed or a carriage return
abbrev pub has_no_ending : List ℕ → Bool
has_no_ending line = list_all (λ byte. not (ends_line byte)) line

-- an ending before the rest of its text: a line feed, a carriage return and a line feed, or a
-- carriage return that no line feed follows
abbrev pub IsEnding : List ℕ → List ℕ → Type 0
IsEnding ending rest =
    (ending ≡ codes "\n")
    ⊎ ((ending ≡ codes "\r\n")
    ⊎ ((ending ≡ codes "\r") × (begins_with_feed rest ≡ false)))

-- the last piece may lack an ending, and then has a byte
pub record IsUnended (p : Piece) (later : List Piece) : Type 0 where
  pub last : later ≡ []
  pub ending : p.ending ≡ []
  pub some : 0 < length p.content

-- a piece, before the pieces that follow it
pub record IsPiece (p : Piece) (later : List Piece) : Type 0 where
  pub content : has_no_ending p.content ≡ true
  pub ending : IsEnding p.ending (text_of later) ⊎ IsUnended p later

-- pieces, each before those that follow it
abbrev pub ArePieces : List Piece → Type 0
ArePieces [] = ⊤
ArePieces (p ∷ ps) = IsPiece p ps × ArePieces ps

-- these pieces, one after another, are the text
pub record Divides (ps : List Piece) (text : List ℕ) : Type 0 where
  pub whole : text_of ps ≡ text
  pub pieces : ArePieces ps

-- WHERE LINES BEGIN AND END
-- a line, and where it begins and ends in its text, as indices of bytes from 0
pub record Span : Type 0 where
  pub from : ℕ
  pub to : ℕ
  pub bytes : List ℕ

-- the lines of pieces, of which the first begins at this index
abbrev pub spans_from : ℕ → List Piece → List Span
spans_from at [] = []
spans_from at (p ∷ ps) =
    record { from = at; to = at + length p.content; bytes = p.content }
    ∷ spans_from (at + length p.content + length p.ending) ps

-- the lines of a text, and where they begin and end in it
abbrev pub spans_of : List ℕ → List Span
spans_of text = spans_from 0 (pieces_of text)

-- a line is the part of the text from where it begins to where it ends, and does not begin before
-- this index
pub record IsSpan (text : List ℕ) (low : ℕ) (s : Span) : Type 0 where
  pub above : low ≤ s.from
  pub ordered : s.from ≤ s.to
  pub within : s.to ≤ length text
  pub part : slice_range text s.from s.to ≡ s.bytes

-- each line is a part of the text, and begins after the one before it ends
abbrev pub SpansRise : List ℕ → ℕ → List Span → Type 0
SpansRise text low [] = ⊤
SpansRise text low (s ∷ ss) = IsSpan text low s × SpansRise text (s.to + 1) ss

-- where these are the pieces of the text, each line begins after the bytes of the pieces before it
abbrev pub SpansFollow : List ℕ → List Piece → Type 0
SpansFollow text ps = (before after : List Piece) (p : Piece) → before ++ (p ∷ after) ≡ ps
    → let from = length (text_of before) in
    slice_get (spans_of text) (length before)
    ≡ Some (record { from = from; to = from + length p.content; bytes = p.content })
