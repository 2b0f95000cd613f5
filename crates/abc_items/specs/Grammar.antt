-- The items of a music line, as the table of items says them: row by row, and the first row that
-- fits. The rows are those of ABC 2.1, 3.2 and 4.1 to 4.19. That the first row counts, and that
-- what is unclosed fits no row but the last, is own profile.
use Rattle.std.specs.Prelude.{◌≡◌, ◌⊎◌, ℕ, zero, suc, ◌<◌, true, false, List, [], ◌∷◌, ◌++◌}
use Rattle.std.specs.Prelude.{length, codes, Option, Some, None, ⊤}
use Rattle.std.specs.List.{list_all}
use Rattle.std.specs.Char.{is_ascii_alphabetic, is_ascii_digit}
use Rattle.abc_keys.specs.declared.letters.Accidental.{Accidental}
use Rattle.abc_keys.specs.declared.letters.Letter.{Letter}
use Rattle.abc_keys.specs.Letters.{letter_of, spelling}
use Rattle.abc_keys.specs.ByteRuns.{IsRun}
use Rattle.abc_fields.specs.Bytes.{colon, begins}
use Rattle.abc_items.specs.declared.kinds.Kind.{Kind}
use Rattle.abc_items.specs.declared.kinds.Kind.TheVariants.{Quoted, Decoration, Grace, InlineField}
use Rattle.abc_items.specs.declared.kinds.Kind.TheVariants.{Chord, Tuplet, Note, Bar, Other}
use Rattle.abc_items.specs.Marks.{quotation_mark, exclamation_mark, plus_sign, opening_brace}
use Rattle.abc_items.specs.Marks.{closing_brace, opening_bracket, closing_bracket}
use Rattle.abc_items.specs.Marks.{opening_parenthesis, is_colon, is_octave_mark}
use Rattle.abc_items.specs.Marks.{is_chord_byte, has_no}

-- THE ROWS, EACH BY ITSELF
-- an opening mark, bytes other than the closing mark, or none, and the closing mark (ABC 2.1, 4.12,
-- 4.14, 4.18 and 4.19)
pub record IsEnclosed (opening closing : ℕ) (text : List ℕ) : Type 0 where
  pub inside : List ℕ
  pub plain : has_no closing inside ≡ true
  pub whole : text ≡ opening ∷ (inside ++ closing ∷ [])

-- `[`, a letter, `:`, bytes other than `]`, or none, and `]` (ABC 2.1, 3.2)
pub record IsInlineField (text : List ℕ) : Type 0 where
  pub name : ℕ
  pub value : List ℕ
  pub letter : is_ascii_alphabetic name ≡ true
  pub plain : has_no closing_bracket value ≡ true
  pub whole : text ≡ opening_bracket ∷ name ∷ colon ∷ (value ++ closing_bracket ∷ [])

-- `[`, one or more bytes that are none of `[`, `]` and `|`, of which the first is no digit, and `]`
-- (ABC 2.1, 4.17)
pub record IsChord (text : List ℕ) : Type 0 where
  pub inside : List ℕ
  pub plain : list_all is_chord_byte inside ≡ true
  pub some : 0 < length inside
  pub no_digit : begins is_ascii_digit inside ≡ false
  pub whole : text ≡ opening_bracket ∷ (inside ++ closing_bracket ∷ [])

-- a colon and the digits after it, or none, up to so many times, as far as it goes before this rest
abbrev pub AreColonParts : ℕ → List ℕ → List ℕ → Type 0
AreColonParts zero text rest = text ≡ []
AreColonParts (suc most) text rest =
    ((text ≡ []) × (begins is_colon rest ≡ false))
    ⊎ ((digits : List ℕ) × (later : List ℕ)
    × IsRun is_ascii_digit digits (later ++ rest) × AreColonParts most later rest
    × (text ≡ colon ∷ (digits ++ later)))

-- `(` and digits, then at most two colons, each with the digits after it (ABC 2.1, 4.13)
pub record IsTuplet (text rest : List ℕ) : Type 0 where
  pub digits : List ℕ
  pub later : List ℕ
  pub some : 0 < length digits
  pub run : IsRun is_ascii_digit digits (later ++ rest)
  pub parts : AreColonParts 2 later rest
  pub whole : text ≡ opening_parenthesis ∷ (digits ++ later)

-- how a note's own accidental is written: nothing where it has none
abbrev pub spelling_of : Option Accidental → List ℕ
spelling_of None = []
spelling_of (Some accidental) = spelling accidental

-- an accidental or none, a byte that names a letter, and octave marks, as many as there are (ABC
-- 2.1, 4.1 and 4.2)
pub record IsNote (text rest : List ℕ) : Type 0 where
  pub own : Option Accidental
  pub name : ℕ
  pub letter : Letter
  pub marks : List ℕ
  pub named : letter_of name ≡ Some letter
  pub run : IsRun is_octave_mark marks rest
  pub whole : text ≡ spelling_of own ++ (name ∷ marks)

-- the text is of the row, where this rest of the line follows it
abbrev pub FitsRow : Kind → List ℕ → List ℕ → Type 0
FitsRow Quoted text rest = IsEnclosed quotation_mark quotation_mark text
FitsRow Decoration text rest =
    IsEnclosed exclamation_mark exclamation_mark text ⊎ IsEnclosed plus_sign plus_sign text
FitsRow Grace text rest = IsEnclosed opening_brace closing_brace text
FitsRow InlineField text rest = IsInlineField text
FitsRow Chord text rest = IsChord text
FitsRow Tuplet text rest = IsTuplet text rest
FitsRow Note text rest = IsNote text rest
FitsRow Bar text rest = (text ≡ codes "|") ⊎ (text ≡ codes ":")
FitsRow Other text rest = (byte : ℕ) × (text ≡ byte ∷ [])

-- THE FIRST ROW THAT FITS
-- where a row stands in the table
abbrev pub row_rank : Kind → ℕ
row_rank Quoted = 0
row_rank Decoration = 1
row_rank Grace = 2
row_rank InlineField = 3
row_rank Chord = 4
row_rank Tuplet = 5
row_rank Note = 6
row_rank Bar = 7
row_rank Other = 8

-- no front of the line is of this row
abbrev pub FitsNowhere : Kind → List ℕ → Type 0
FitsNowhere kind line = (text rest : List ℕ) → text ++ rest ≡ line → FitsRow kind text rest → ⊥

-- the row fits, and no row before it fits any front of the line
pub record IsItem (kind : Kind) (text rest : List ℕ) : Type 0 where
  pub fits : FitsRow kind text rest
  pub first : (earlier : Kind) → row_rank earlier < row_rank kind
      → FitsNowhere earlier (text ++ rest)

-- THE ITEMS OF A LINE
-- what an item is, and its bytes
pub record ItemText : Type 0 where
  pub kind : Kind
  pub text : List ℕ

-- the texts of items, one after another
abbrev pub text_of_items : List ItemText → List ℕ
text_of_items [] = []
text_of_items (item ∷ items) = item.text ++ text_of_items items

-- each is an item before the texts of those that follow it
abbrev pub EachIsItem : List ItemText → Type 0
EachIsItem [] = ⊤
EachIsItem (item ∷ items) = IsItem item.kind item.text (text_of_items items) × EachIsItem items

-- these items, one after another, are the line
pub record AreItems (items : List ItemText) (line : List ℕ) : Type 0 where
  pub whole : text_of_items items ≡ line
  pub each : EachIsItem items
