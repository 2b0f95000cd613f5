-- What music lines say: their notes, bars and changes of key (ABC 2.1, 3.2, 4.1, 4.2, 4.8 and
-- 4.17; own profile where the standard is silent).
use Rattle.std.specs.Prelude.{ℕ, ◌+◌, ◌-◌, ◌&&◌, ◌||◌, not, if◌then◌else◌, Bool, true, false, List}
use Rattle.std.specs.Prelude.{[], ◌∷◌, ◌++◌, codes, take, drop, length, unwrap_or, count_by}
use Rattle.std.specs.Prelude.{slice_index, ℤ, pos, ◌-ℤ◌}
use Rattle.abc_fields.specs.Lines.{Span as Line, spans_of as lines_of}
use Rattle.abc_fields.specs.LineKinds.{is_field_line, is_continuation, is_comment, in_part_after}
use Rattle.abc_fields.specs.Tunes.{is_key_line}
use Rattle.abc_fields.specs.Values.{uncommented, field_value}
use Rattle.abc_fields.specs.Fields.{key_text_of}
use Rattle.abc_keys.specs.declared.letters.Letter.TheVariants.{C}
use Rattle.abc_keys.specs.declared.signatures.Signature.{Signature}
use Rattle.abc_fields.specs.Bytes.{is_one_of}
use Rattle.abc_keys.specs.Letters.{letter_of}
use Rattle.abc_keys.specs.Keys.{signature_of}
use Rattle.abc_items.specs.declared.kinds.Kind.{Kind}
use Rattle.abc_items.specs.declared.kinds.Kind.TheVariants as kind
use Rattle.abc_items.specs.Grammar.{spelling_of}
use Rattle.abc_items.specs.NoteFronts.{own_accidental}
use Rattle.abc_items.specs.ItemSpans.{ItemSpan}
use Rattle.abc_notes.specs.SaidKeys.{key_said}
use Rattle.abc_notes.specs.SaidItems.{spans_said}
use Rattle.abc_notes.specs.Events.{WrittenNote, Event, note, bar, change}

-- NOTES
-- a small letter is an octave higher, each ' adds an octave and each , takes one
abbrev pub octave_of : ℕ → List ℕ → ℤ
octave_of name marks =
    pos ((if is_one_of (codes "abcdefg") name then 1 else 0)
    + count_by (λ mark. is_one_of (codes "'") mark) marks)
    -ℤ pos (count_by (λ mark. is_one_of (codes ",") mark) marks)

-- the note that an item is; the text of the items begins at this index of the tune
unfoldable pub written : ℕ → Bool → ItemSpan → WrittenNote
written base counts span =
    let own = own_accidental span.bytes in
    let before = length (spelling_of own) in
    let name = slice_index span.bytes before in
    record {
      from = base + span.from;
      to = base + span.to;
      bytes = span.bytes;
      letter = unwrap_or (letter_of name) C;
      octave = octave_of name (drop (before + 1) span.bytes);
      own = own;
      counts = counts;
    }

-- CHORDS: THE NOTES AND BARS INSIDE, OF WHICH THE FIRST NOTE COUNTS
abbrev pub is_note : Kind → Bool
is_note kind.Note = true
is_note _ = false

-- the event of an item that is no chord and no field, if it is one
unfoldable pub plain_events : ℕ → Bool → Kind → ItemSpan → List Event
plain_events base counts kind.Note span = note (written base counts span) ∷ []
plain_events base counts kind.Bar span = bar ∷ []
plain_events base counts _ span = []

-- whether the next note is the first
unfoldable pub chord_events : ℕ → Bool → List ItemSpan → List Event
chord_events base first [] = []
chord_events base first (span ∷ spans) =
    plain_events base first span.kind span
    ++ chord_events base (first && not (is_note span.kind)) spans

-- the bytes between the brackets
abbrev pub inside_of : List ℕ → List ℕ
inside_of text = take (length text - 2) (drop 1 text)

-- LINES
-- `[K:..]` changes the key; other fields mean nothing here
abbrev pub inline_events : List ℕ → List Event
inline_events (bracket ∷ name ∷ between ∷ rest) =
    if is_one_of (codes "K") name
    then change (signature_of (key_said (take (length rest - 1) rest))) ∷ []
    else []
inline_events _ = []

unfoldable pub item_events : ℕ → Kind → ItemSpan → List Event
item_events base kind.Chord span =
    chord_events (base + span.from + 1) true (spans_said (inside_of span.bytes))
item_events base kind.InlineField span = inline_events span.bytes
item_events base k span = plain_events base true k span

-- the events of the items of a music line that begins at this index
unfoldable pub line_events : ℕ → List ItemSpan → List Event
line_events base [] = []
line_events base (span ∷ spans) = item_events base span.kind span ++ line_events base spans

-- a line as music, up to its comment
abbrev pub music_events : ℕ → List ℕ → List Event
music_events base line = line_events base (spans_said (uncommented line))

-- TUNES
abbrev pub key_events : List ℕ → List Event
key_events line = change (signature_of (key_said (field_value line))) ∷ []

-- the events of a line of a tune's body: a key changes the signature, other fields, their
-- continuations, comments and directives mean nothing, and the rest is music
abbrev pub body_line_events : ℕ → List ℕ → List Event
body_line_events base line =
    if is_key_line line then key_events line
    else if is_field_line line || is_continuation line || is_comment line then []
    else music_events base line

-- lines within a part mean nothing
abbrev pub line_meaning : Bool → Line → List Event
line_meaning in_part line = if in_part then [] else body_line_events line.from line.bytes

-- the events of the lines after the header
unfoldable pub body_events : Bool → List Line → List Event
body_events in_part [] = []
body_events in_part (line ∷ lines) =
    line_meaning in_part line ++ body_events (in_part_after in_part line.bytes) lines

-- the events of a tune's lines: those up to the first that gives the key are its header, in which
-- parts begin and end too
unfoldable pub events_after_header : Bool → List Line → List Event
events_after_header in_part [] = []
events_after_header in_part (line ∷ lines) =
    if is_key_line line.bytes then body_events (in_part_after in_part line.bytes) lines
    else events_after_header (in_part_after in_part line.bytes) lines

abbrev pub tune_events : List ℕ → List Event
tune_events text = events_after_header false (lines_of text)

-- the signature with which a tune begins: that of its key text
abbrev pub tune_signature : List ℕ → Signature
tune_signature text = signature_of (key_said (key_text_of text))
