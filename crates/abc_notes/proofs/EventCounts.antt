-- A text has no more events than it has bytes.
use Rattle.std.proofs.Common.{◌≡◌, ℕ, ◌+◌, ◌-◌, ◌≤◌, Bool, true, false, cond, List, [], ◌∷◌, length, take, drop, ap, arith}
use Rattle.std.specs.Prelude.{codes, not, ◌&&◌, ◌||◌}
use Rattle.std.proofs.lemmas.List.{length-append, length-drop, length-take}
use Rattle.std.proofs.lemmas.Bool.{cond_both}
use Rattle.abc_fields.specs.LineKinds.{is_field_line, is_continuation, is_comment, in_part_after}
use Rattle.abc_fields.specs.Lines.{Span as Line, SpansRise, spans_of as lines_of}
use Rattle.abc_fields.specs.Tunes.{is_key_line}
use Rattle.abc_fields.specs.Values.{uncommented}
use Rattle.abc_fields.proofs.CommentLaw.{is_uncommented}
use Rattle.abc_fields.proofs.LineLaw.{spans_rise}
use Rattle.abc_fields.specs.Bytes.{is_one_of}
use Rattle.abc_keys.specs.Keys.{key_of_text, signature_of}
use Rattle.abc_items.specs.declared.kinds.Kind.{Kind}
use Rattle.abc_items.specs.declared.kinds.Kind.TheVariants as kind
use Rattle.abc_items.specs.ItemSpans.{ItemSpan, item_spans_of, ItemSpansFill}
use Rattle.abc_items.proofs.ItemSpans.{spans_fill}
use Rattle.abc_notes.proofs.TextParts.{line_long}
use Rattle.abc_notes.specs.Events.{Event, change}
use Rattle.abc_notes.specs.Music.{is_note, plain_events, chord_events, inside_of, inline_events, item_events, line_events, music_events, body_line_events}
use Rattle.abc_notes.specs.Music.{line_meaning, body_events, events_after_header, tune_events}

-- ITEMS
-- an item that is no chord and no field has at most one event
plain_few : (base : ℕ) (counts : Bool) (k : Kind) (span : ItemSpan) → length (plain_events base counts k span) ≤ 1
unfolding plain_events
plain_few base counts kind.Note span = omega arith
plain_few base counts kind.Bar span = omega arith
plain_few base counts kind.Quoted span = omega arith
plain_few base counts kind.Decoration span = omega arith
plain_few base counts kind.Grace span = omega arith
plain_few base counts kind.InlineField span = omega arith
plain_few base counts kind.Chord span = omega arith
plain_few base counts kind.Tuplet span = omega arith
plain_few base counts kind.Other span = omega arith

-- items from here to the text's end that have one event each
chord_few : (base : ℕ) (first : Bool) (text : List ℕ) (at : ℕ) (spans : List ItemSpan) → ItemSpansFill text at spans
    → length (chord_events base first spans) + at ≤ length text
unfolding chord_events
chord_few base first text at [] fill = omega arith
chord_few base first text at (span ∷ spans) (placed, later) =
    let go = first && not (is_note span.kind) in
    let one = plain_few base first span.kind span in
    let rest = chord_few base go text span.to spans later in
    omega (arith, length-append (plain_events base first span.kind span) (chord_events base go spans), placed.some, placed.begins)

-- one event or none
one_or_none : (test : Bool) (event : Event) → length (cond test (event ∷ []) []) ≤ 1
one_or_none true event = omega arith
one_or_none false event = omega arith

-- a field in a line has at most one event
inline_few : (text : List ℕ) → length (inline_events text) ≤ 1
inline_few [] = omega arith
inline_few (bracket ∷ []) = omega arith
inline_few (bracket ∷ name ∷ []) = omega arith
inline_few (bracket ∷ name ∷ between ∷ rest) =
    one_or_none (is_one_of (codes "K") name) (change (signature_of (key_of_text (take (length rest - 1) rest))))

-- the bytes between brackets are no more than all
inside_short : (text : List ℕ) → length (inside_of text) ≤ length text
inside_short text = omega (arith, length-take (length text - 2) (drop 1 text), length-drop 1 text)

-- an item with a byte has no more events than it has bytes
item_few : (base : ℕ) (k : Kind) (span : ItemSpan) → 1 ≤ length span.bytes → length (item_events base k span) ≤ length span.bytes
unfolding item_events
item_few base kind.Chord span some =
    omega (
      arith,
      chord_few (base + span.from + 1) true (inside_of span.bytes) 0 (item_spans_of (inside_of span.bytes)) (spans_fill (inside_of span.bytes)),
      inside_short span.bytes,
    )
item_few base kind.InlineField span some = omega (arith, inline_few span.bytes)
item_few base kind.Note span some = omega (arith, plain_few base true kind.Note span)
item_few base kind.Bar span some = omega (arith, plain_few base true kind.Bar span)
item_few base kind.Quoted span some = omega (arith, plain_few base true kind.Quoted span)
item_few base kind.Decoration span some = omega (arith, plain_few base true kind.Decoration span)
item_few base kind.Grace span some = omega (arith, plain_few base true kind.Grace span)
item_few base kind.Tuplet span some = omega (arith, plain_few base true kind.Tuplet span)
item_few base kind.Other span some = omega (arith, plain_few base true kind.Other span)

-- LINES
-- items from here to the text's end have no more events than there are bytes from here on
line_few : (base : ℕ) (text : List ℕ) (at : ℕ) (spans : List ItemSpan) → ItemSpansFill text at spans → length (line_events base spans) + at ≤ length text
unfolding line_events
line_few base text at [] fill = omega arith
line_few base text at (span ∷ spans) (placed, later) =
    let item = item_few base span.kind span (omega (arith, placed.some, placed.ends)) in
    let rest = line_few base text span.to spans later in
    omega (arith, length-append (item_events base span.kind span) (line_events base spans), placed.ends, placed.begins)

-- a text has no more events than it has bytes
pub items_few : (base : ℕ) (text : List ℕ) → length (line_events base (item_spans_of text)) ≤ length text
items_few base text = omega (arith, line_few base text 0 (item_spans_of text) (spans_fill text))

-- a line without its comment is no longer
uncommented_short : (line : List ℕ) → length (uncommented line) ≤ length line
uncommented_short line =
    let cut = is_uncommented line in omega (arith, ap length cut.whole, length-append (uncommented line) cut.rest)

-- a music line that begins anywhere has no more events than it has bytes
music_few : (base : ℕ) (line : List ℕ) → length (music_events base line) ≤ length line
music_few base line =
    omega (arith, items_few base (uncommented line), uncommented_short line)

-- TUNES
-- a line that gives the key has a byte
key_line_long : (line : List ℕ) → is_key_line line ≡ true → 1 ≤ length line
key_line_long [] gives = absurd (cc)
key_line_long (byte ∷ line) gives = omega arith

-- a line of a tune's body has no more events than it has bytes
body_line_few : (base : ℕ) (line : List ℕ) → length (body_line_events base line) ≤ length line
body_line_few base line =
    cond_both (is_key_line line) _ _ (λ events. length events ≤ length line)
    (λ gives. omega (arith, key_line_long line gives))
    (λ other. cond_both (is_field_line line || is_continuation line || is_comment line) _ _ (λ events. length events ≤ length line)
    (λ none. omega arith)
    (λ music. music_few base line))

-- a line within a part has no events
meaning_few : (in_part : Bool) (line : Line) → length (line_meaning in_part line) ≤ length line.bytes
meaning_few true line = omega arith
meaning_few false line = body_line_few line.from line.bytes

-- lines from here on have no more events than there are bytes from here on
body_few : (in_part : Bool) (text : List ℕ) (low : ℕ) (lines : List Line) → SpansRise text low lines → length (body_events in_part lines) ≤ length text - low
unfolding body_events
body_few in_part text low [] rise = omega arith
body_few in_part text low (line ∷ lines) (placed, later) =
    let go = in_part_after in_part line.bytes in
    let meant = meaning_few in_part line in
    let rest = body_few go text (line.to + 1) lines later in
    omega (arith, length-append (line_meaning in_part line) (body_events go lines), line_long text low line placed, placed.above, placed.within)

-- and so do those after the header
after_header_few : (in_part : Bool) (text : List ℕ) (low : ℕ) (lines : List Line) → SpansRise text low lines
    → length (events_after_header in_part lines) ≤ length text - low
unfolding events_after_header
after_header_few in_part text low [] rise = omega arith
after_header_few in_part text low (line ∷ lines) (placed, later) =
    let go = in_part_after in_part line.bytes in
    cond_both (is_key_line line.bytes) (body_events go lines) (events_after_header go lines) (λ events. length events ≤ length text - low)
    (λ gives. omega (arith, body_few go text (line.to + 1) lines later, placed.above, placed.ordered))
    (λ other. omega (arith, after_header_few go text (line.to + 1) lines later, placed.above, placed.ordered))

-- a tune has no more events than it has bytes
pub tune_events_few : (text : List ℕ) → length (tune_events text) ≤ length text
tune_events_few text = omega (arith, after_header_few false text 0 (lines_of text) (spans_rise text))
