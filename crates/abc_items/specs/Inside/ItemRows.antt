-- The items of a line as the code reads them: the item at the front, row by row as a length, and
-- then the others. That they are items by the table, and no others are, is proved in `ItemLaw`.
use Rattle.std.specs.Prelude.{ℕ, zero, suc, ◌+◌, ◌-◌, ◌==◌, ◌&&◌, not, nat_lt, if◌then◌else◌}
use Rattle.std.specs.Prelude.{List, [], ◌∷◌, Option, Some, None, take, drop, length}
use Rattle.std.specs.List.{prefix_len}
use Rattle.std.specs.Option.{option_map}
use Rattle.std.specs.Char.{is_ascii_alphabetic, is_ascii_digit}
use Rattle.abc_fields.specs.Bytes.{colon, begins}
use Rattle.abc_items.specs.declared.kinds.Kind.{Kind}
use Rattle.abc_items.specs.declared.kinds.Kind.TheVariants.{Quoted, Decoration, Grace, InlineField}
use Rattle.abc_items.specs.declared.kinds.Kind.TheVariants.{Chord, Tuplet, Note, Bar, Other}
use Rattle.abc_items.specs.declared.kinds.Front.{Front}
use Rattle.abc_items.specs.Marks.{quotation_mark, exclamation_mark, plus_sign, opening_brace}
use Rattle.abc_items.specs.Marks.{closing_brace, opening_bracket, closing_bracket}
use Rattle.abc_items.specs.Marks.{opening_parenthesis, is_closing_bracket, is_bar}
use Rattle.abc_items.specs.Marks.{is_octave_mark, is_chord_byte}
use Rattle.abc_items.specs.Grammar.{ItemText, spelling_of}
use Rattle.abc_items.specs.NoteFronts.{own_accidental, is_note_name}

-- THE ROWS: HOW MANY BYTES AT THE FRONT OF A TEXT ARE OF THE ROW, IF SOME ARE
-- so many bytes more, if there is a length
abbrev pub longer : ℕ → Option ℕ → Option ℕ
longer more found = option_map (λ bytes. bytes + more) found

-- up to the first closing mark, that one too
abbrev pub up_to : ℕ → List ℕ → Option ℕ
up_to closing [] = None
up_to closing (byte ∷ text) = if byte == closing then Some 1 else longer 1 (up_to closing text)

-- a text in two marks
unfoldable pub enclosed : ℕ → ℕ → List ℕ → Option ℕ
enclosed opening closing [] = None
enclosed opening closing (byte ∷ text) =
    if byte == opening then longer 1 (up_to closing text) else None

-- an inline field
unfoldable pub inline_field : List ℕ → Option ℕ
inline_field (first ∷ name ∷ third ∷ text) =
    if first == opening_bracket && is_ascii_alphabetic name && third == colon
    then longer 3 (up_to closing_bracket text)
    else None
inline_field _ = None

-- a chord: the longest run of bytes that may stand in one, if the closing bracket follows it
unfoldable pub chord : List ℕ → Option ℕ
chord [] = None
chord (byte ∷ text) =
    let inside = prefix_len is_chord_byte text in
    if byte == opening_bracket && nat_lt 0 inside && not (begins is_ascii_digit text)
    && begins is_closing_bracket (drop inside text)
    then Some (inside + 2)
    else None

-- a colon and the digits after it, or nothing
abbrev pub colon_part : List ℕ → ℕ
colon_part [] = 0
colon_part (byte ∷ text) = if byte == colon then 1 + prefix_len is_ascii_digit text else 0

-- the same up to so many times
abbrev pub colon_parts : ℕ → List ℕ → ℕ
colon_parts zero text = 0
colon_parts (suc most) text =
    let first = colon_part text in first + colon_parts most (drop first text)

-- a tuplet
unfoldable pub tuplet : List ℕ → Option ℕ
tuplet [] = None
tuplet (byte ∷ text) =
    let digits = prefix_len is_ascii_digit text in
    if byte == opening_parenthesis && nat_lt 0 digits
    then Some (1 + digits + colon_parts 2 (drop digits text))
    else None

-- a note
unfoldable pub note : List ℕ → Option ℕ
note text =
    let before = length (spelling_of (own_accidental text)) in
    if begins is_note_name (drop before text)
    then Some (before + 1 + prefix_len is_octave_mark (drop (before + 1) text))
    else None

-- THE FIRST ROW THAT FITS
abbrev pub front : Kind → ℕ → Front
front kind bytes = record { kind = kind; length = bytes }

-- this row if it has a length, and else that item
abbrev pub or_else : Kind → Option ℕ → Front → Front
or_else kind (Some bytes) other = front kind bytes
or_else kind None other = other

-- the item at the front of a text that has a byte
unfoldable pub first_item : List ℕ → Front
first_item text =
    or_else Quoted (enclosed quotation_mark quotation_mark text)
    (or_else Decoration (enclosed exclamation_mark exclamation_mark text)
    (or_else Decoration (enclosed plus_sign plus_sign text)
    (or_else Grace (enclosed opening_brace closing_brace text)
    (or_else InlineField (inline_field text)
    (or_else Chord (chord text)
    (or_else Tuplet (tuplet text)
    (or_else Note (note text)
    (front (if begins is_bar text then Bar else Other) 1))))))))

-- THE ITEMS OF A TEXT
-- byte by byte, of which so many are still bytes of the item before
abbrev pub items_after : ℕ → List ℕ → List ItemText
items_after skip [] = []
items_after zero (byte ∷ text) =
    let item = first_item (byte ∷ text) in
    record { kind = item.kind; text = take item.length (byte ∷ text) }
    ∷ items_after (item.length - 1) text
items_after (suc skip) (byte ∷ text) = items_after skip text

-- the items that are read from a text
abbrev pub items_read : List ℕ → List ItemText
items_read text = items_after 0 text
