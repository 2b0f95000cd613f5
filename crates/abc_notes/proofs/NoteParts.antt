-- The notes of a text are parts of it, one after another.
use Rattle.std.proofs.Common.{◌≡◌, ℕ, ◌+◌, ◌-◌, ◌<◌, ◌≤◌, Bool, true, false, List, [], ◌∷◌, ◌++◌, length, take, drop, cond, refl, ap, sym, ◌∙◌, add-zero, arith}
use Rattle.std.specs.Prelude.{slice_range, codes, not, ◌&&◌, ◌||◌}
use Rattle.std.proofs.lemmas.Bool.{cond_both}
use Rattle.std.proofs.lemmas.List.{length-drop, length-take-le}
use Rattle.abc_fields.specs.LineKinds.{is_field_line, is_continuation, is_comment, in_part_after}
use Rattle.abc_fields.specs.Lines.{Span as Line, IsSpan, SpansRise, spans_of as lines_of}
use Rattle.abc_fields.specs.Tunes.{is_key_line}
use Rattle.abc_fields.specs.Values.{uncommented}
use Rattle.abc_fields.proofs.CommentLaw.{is_uncommented}
use Rattle.abc_fields.proofs.LineLaw.{spans_rise}
use Rattle.abc_fields.specs.Bytes.{is_one_of}
use Rattle.abc_keys.specs.Keys.{key_of_text, signature_of}
use Rattle.abc_keys.specs.declared.signatures.Signature.{Signature}
use Rattle.abc_items.specs.declared.kinds.Kind.{Kind}
use Rattle.abc_items.specs.declared.kinds.Kind.TheVariants as kind
use Rattle.abc_items.specs.Grammar.{FitsRow}
use Rattle.abc_items.specs.ItemSpans.{ItemSpan, item_spans_of, IsSpanAt, ItemSpansFill}
use Rattle.abc_items.proofs.ItemSpans.{spans_fill}
use Rattle.abc_notes.proofs.TextParts.{line_long, chord_brackets, StandsAt, stands_within, stands_itself, stands_between, stands_ends, stands_part}
use Rattle.abc_notes.specs.Events.{WrittenNote, Event, note, bar, change}
use Rattle.abc_notes.specs.Music.{written, is_note, plain_events, chord_events, inside_of, inline_events, item_events, line_events, music_events}
use Rattle.abc_notes.specs.Music.{body_line_events, line_meaning, body_events, events_after_header, tune_events}
use Rattle.abc_notes.specs.NoteParts.{AreNoteParts, NotesRise}
use Rattle.abc_notes.specs.Pitches.{sounded_notes}

-- NOTES AMONG EVENTS
-- a note as it is written is what stands in the text from where it begins to where it ends
record IsWrittenPart (text : List ℕ) (n : WrittenNote) : Type 0 where
  ordered : n.from < n.to
  within : n.to ≤ length text
  part : slice_range text n.from n.to ≡ n.bytes

-- the notes among events are parts of the text, one after another, between these indices
abbrev NotesRun : List ℕ → ℕ → ℕ → List Event → Type 0
NotesRun text low high [] = low ≤ high
NotesRun text low high (note n ∷ events) = (low ≤ n.from) × IsWrittenPart text n × NotesRun text n.to high events
NotesRun text low high (bar ∷ events) = NotesRun text low high events
NotesRun text low high (change s ∷ events) = NotesRun text low high events

-- they are so from an earlier index on
run_from : (text : List ℕ) (low at high : ℕ) (events : List Event) → low ≤ at → NotesRun text at high events → NotesRun text low high events
run_from text low at high [] below runs = omega arith
run_from text low at high (note n ∷ events) below (above, part, later) = (omega arith, part, later)
run_from text low at high (bar ∷ events) below runs = run_from text low at high events below runs
run_from text low at high (change s ∷ events) below runs = run_from text low at high events below runs

-- events before others
run_append : (text : List ℕ) (low at high : ℕ) (events later : List Event) → NotesRun text low at events → NotesRun text at high later
    → NotesRun text low high (events ++ later)
run_append text low at high [] later runs rest = run_from text low at high later runs rest
run_append text low at high (note n ∷ events) later (above, part, runs) rest = (above, part, run_append text n.to at high events later runs rest)
run_append text low at high (bar ∷ events) later runs rest = run_append text low at high events later runs rest
run_append text low at high (change s ∷ events) later runs rest = run_append text low at high events later runs rest

-- they are so up to a later index
run_to : (text : List ℕ) (low at high : ℕ) (events : List Event) → at ≤ high → NotesRun text low at events → NotesRun text low high events
run_to text low at high [] above runs = omega arith
run_to text low at high (note n ∷ events) above (begins, part, later) = (begins, part, run_to text n.to at high events above later)
run_to text low at high (bar ∷ events) above runs = run_to text low at high events above runs
run_to text low at high (change s ∷ events) above runs = run_to text low at high events above runs

-- the notes as they sound are the same parts
sounded_parts : (first : Signature) (past : List Event) (text : List ℕ) (low high : ℕ) (events : List Event) → NotesRun text low high events
    → AreNoteParts text (sounded_notes first past events)
unfolding sounded_notes
sounded_parts first past text low high [] runs = tt
sounded_parts first past text low high (note n ∷ events) (above, part, later) =
    (record { ordered = part.ordered; within = part.within; part = part.part }, sounded_parts first (note n ∷ past) text n.to high events later)
sounded_parts first past text low high (bar ∷ events) runs = sounded_parts first (bar ∷ past) text low high events runs
sounded_parts first past text low high (change s ∷ events) runs = sounded_parts first (change s ∷ past) text low high events runs

-- and rise as they do
sounded_rise : (first : Signature) (past : List Event) (text : List ℕ) (low high : ℕ) (events : List Event) → NotesRun text low high events
    → NotesRise low (sounded_notes first past events)
unfolding sounded_notes
sounded_rise first past text low high [] runs = tt
sounded_rise first past text low high (note n ∷ events) (above, part, later) = (above, sounded_rise first (note n ∷ past) text n.to high events later)
sounded_rise first past text low high (bar ∷ events) runs = sounded_rise first (bar ∷ past) text low high events runs
sounded_rise first past text low high (change s ∷ events) runs = sounded_rise first (change s ∷ past) text low high events runs

-- ITEMS
-- an item stands in its text
item_stands : (text : List ℕ) (at : ℕ) (span : ItemSpan) → IsSpanAt text at span → StandsAt text span.from span.bytes
item_stands text at span placed = stands_between text span.bytes span.from span.to (omega (arith, placed.some)) placed.within placed.part

-- a note that stands in a text is a part of it
written_part : (text : List ℕ) (base : ℕ) (counts : Bool) (span : ItemSpan) → StandsAt text (base + span.from) span.bytes → span.from < span.to
    → span.to ≡ span.from + length span.bytes
    → IsWrittenPart text (written base counts span)
unfolding written
written_part text base counts span stands some ends =
    let last : base + span.from + length span.bytes ≡ base + span.to = omega arith in
    record {
      ordered = omega arith;
      within = omega (arith, stands_ends text span.bytes (base + span.from) stands);
      part = ap (slice_range text (base + span.from)) (sym last) ∙ stands_part text span.bytes (base + span.from) stands;
    }

-- the event of an item that is no chord and no field lies within it
plain_run : (text : List ℕ) (base : ℕ) (counts : Bool) (k : Kind) (span : ItemSpan) → StandsAt text (base + span.from) span.bytes → span.from < span.to
    → span.to ≡ span.from + length span.bytes
    → NotesRun text (base + span.from) (base + span.to) (plain_events base counts k span)
unfolding plain_events written
plain_run text base counts kind.Note span stands some ends = (omega arith, written_part text base counts span stands some ends, omega arith)
plain_run text base counts kind.Bar span stands some ends = omega arith
plain_run text base counts kind.Quoted span stands some ends = omega arith
plain_run text base counts kind.Decoration span stands some ends = omega arith
plain_run text base counts kind.Grace span stands some ends = omega arith
plain_run text base counts kind.InlineField span stands some ends = omega arith
plain_run text base counts kind.Chord span stands some ends = omega arith
plain_run text base counts kind.Tuplet span stands some ends = omega arith
plain_run text base counts kind.Other span stands some ends = omega arith

-- the events of the items inside a chord, of which these are left
chord_run : (text inside : List ℕ) (base at : ℕ) (first : Bool) (spans : List ItemSpan) → StandsAt text base inside → ItemSpansFill inside at spans
    → NotesRun text (base + at) (base + length inside) (chord_events base first spans)
unfolding chord_events
chord_run text inside base at first [] stands fill = omega arith
chord_run text inside base at first (span ∷ spans) stands (placed, later) =
    let go = first && not (is_note span.kind) in
    let here = stands_within text inside span.bytes base span.from stands (item_stands inside at span placed) in
    let item = plain_run text base first span.kind span here placed.some placed.ends in
    let rest = chord_run text inside base span.to go spans stands later in
    run_from text (base + at) (base + span.from) (base + length inside)
    (plain_events base first span.kind span ++ chord_events base go spans) (omega (arith, placed.begins))
    (run_append text (base + span.from) (base + span.to) (base + length inside) (plain_events base first span.kind span) (chord_events base go spans) item rest)

-- the bytes between brackets stand after the first one
inside_stands : (text : List ℕ) → 2 ≤ length text → StandsAt text 1 (inside_of text)
inside_stands text long =
    let width : length text - 1 - 1 ≡ length text - 2 = omega arith in
    stands_between text (inside_of text) 1 (length text - 1) (omega arith) (omega arith) (ap (λ n. take n (drop 1 text)) width)

-- and the last one stands after them
inside_long : (text : List ℕ) → 2 ≤ length text → length (inside_of text) + 2 ≡ length text
inside_long text long =
    let rest : length text - 2 ≤ length (drop 1 text) = omega (arith, length-drop 1 text) in
    omega (arith, length-take-le (length text - 2) (drop 1 text) rest)

-- a chord's events lie within it
chord_item_run : (text : List ℕ) (base : ℕ) (span : ItemSpan) → StandsAt text (base + span.from) span.bytes → span.to ≡ span.from + length span.bytes
    → 2 ≤ length span.bytes
    → NotesRun text (base + span.from) (base + span.to) (chord_events (base + span.from + 1) true (item_spans_of (inside_of span.bytes)))
chord_item_run text base span stands ends long =
    let inside = inside_of span.bytes in
    let here = stands_within text span.bytes inside (base + span.from) 1 stands (inside_stands span.bytes long) in
    let runs = chord_run text inside (base + span.from + 1) 0 true (item_spans_of inside) here (spans_fill inside) in
    let events = chord_events (base + span.from + 1) true (item_spans_of inside) in
    run_from text (base + span.from) (base + span.from + 1 + 0) (base + span.to) events (omega arith)
    (run_to text (base + span.from + 1 + 0) (base + span.from + 1 + length inside) (base + span.to) events (omega (arith, inside_long span.bytes long)) runs)

-- a change of key, or nothing, has no notes
change_run : (text : List ℕ) (low high : ℕ) (test : Bool) (s : Signature) → low ≤ high → NotesRun text low high (cond test (change s ∷ []) [])
change_run text low high true s ordered = ordered
change_run text low high false s ordered = ordered

-- nor has a field in a line
inline_run : (text : List ℕ) (low high : ℕ) (field : List ℕ) → low ≤ high → NotesRun text low high (inline_events field)
inline_run text low high [] ordered = ordered
inline_run text low high (bracket ∷ []) ordered = ordered
inline_run text low high (bracket ∷ name ∷ []) ordered = ordered
inline_run text low high (bracket ∷ name ∷ between ∷ rest) ordered =
    change_run text low high (is_one_of (codes "K") name) (signature_of (key_of_text (take (length rest - 1) rest))) ordered

-- the events of an item of a line lie within it
item_run : (text rest : List ℕ) (base : ℕ) (k : Kind) (span : ItemSpan) → StandsAt text (base + span.from) span.bytes → span.from < span.to
    → span.to ≡ span.from + length span.bytes
    → FitsRow k span.bytes rest → NotesRun text (base + span.from) (base + span.to) (item_events base k span)
unfolding item_events
item_run text rest base kind.Chord span stands some ends fits = chord_item_run text base span stands ends (chord_brackets span.bytes fits)
item_run text rest base kind.InlineField span stands some ends fits = inline_run text (base + span.from) (base + span.to) span.bytes (omega arith)
item_run text rest base kind.Note span stands some ends fits = plain_run text base true kind.Note span stands some ends
item_run text rest base kind.Bar span stands some ends fits = plain_run text base true kind.Bar span stands some ends
item_run text rest base kind.Quoted span stands some ends fits = plain_run text base true kind.Quoted span stands some ends
item_run text rest base kind.Decoration span stands some ends fits = plain_run text base true kind.Decoration span stands some ends
item_run text rest base kind.Grace span stands some ends fits = plain_run text base true kind.Grace span stands some ends
item_run text rest base kind.Tuplet span stands some ends fits = plain_run text base true kind.Tuplet span stands some ends
item_run text rest base kind.Other span stands some ends fits = plain_run text base true kind.Other span stands some ends

-- LINES
-- the events of the items of a line, of which these are left
line_run : (text line : List ℕ) (base at : ℕ) (spans : List ItemSpan) → StandsAt text base line → ItemSpansFill line at spans
    → NotesRun text (base + at) (base + length line) (line_events base spans)
unfolding line_events
line_run text line base at [] stands fill = omega arith
line_run text line base at (span ∷ spans) stands (placed, later) =
    let here = stands_within text line span.bytes base span.from stands (item_stands line at span placed) in
    let item = item_run text (drop span.to line) base span.kind span here placed.some placed.ends placed.item.fits in
    let rest = line_run text line base span.to spans stands later in
    run_from text (base + at) (base + span.from) (base + length line)
    (item_events base span.kind span ++ line_events base spans) (omega (arith, placed.begins))
    (run_append text (base + span.from) (base + span.to) (base + length line) (item_events base span.kind span) (line_events base spans) item rest)

-- a line without its comment stands at the line's front
uncommented_stands : (line : List ℕ) → StandsAt line 0 (uncommented line)
uncommented_stands line = let cut = is_uncommented line in record { front = []; back = cut.rest; whole = cut.whole; start = refl }

-- the events of a music line lie within it
music_run : (text line : List ℕ) (base : ℕ) → StandsAt text base line → NotesRun text base (base + length line) (music_events base line)
music_run text line base stands =
    let kept = uncommented line in
    let front = uncommented_stands line in
    let here : StandsAt text base kept = rw (add-zero base) at (stands_within text line kept base 0 stands front) in
    let runs = line_run text kept base 0 (item_spans_of kept) here (spans_fill kept) in
    run_from text base (base + 0) (base + length line) (music_events base line) (omega arith)
    (run_to text (base + 0) (base + length kept) (base + length line) (music_events base line) (omega (arith, stands_ends line kept 0 front)) runs)

-- TUNES
-- the events of a line of a tune's body lie within it
body_line_run : (text line : List ℕ) (base : ℕ) → StandsAt text base line → NotesRun text base (base + length line) (body_line_events base line)
body_line_run text line base stands =
    cond_both (is_key_line line) _ _ (λ events. NotesRun text base (base + length line) events)
    (λ gives. omega arith)
    (λ other. cond_both (is_field_line line || is_continuation line || is_comment line) _ _ (λ events. NotesRun text base (base + length line) events)
    (λ none. omega arith)
    (λ music. music_run text line base stands))

-- or there are none
meaning_run : (text : List ℕ) (in_part : Bool) (line : Line) → StandsAt text line.from line.bytes
    → NotesRun text line.from (line.from + length line.bytes) (line_meaning in_part line)
meaning_run text true line stands = omega arith
meaning_run text false line stands = body_line_run text line.bytes line.from stands

-- a line stands in its text
line_stands : (text : List ℕ) (low : ℕ) (line : Line) → IsSpan text low line → StandsAt text line.from line.bytes
line_stands text low line placed = stands_between text line.bytes line.from line.to placed.ordered placed.within placed.part

-- the events of the lines of a body, of which these are left
body_run : (in_part : Bool) (text : List ℕ) (low : ℕ) (lines : List Line) → SpansRise text low lines → low ≤ length text + 1
    → NotesRun text low (length text + 1) (body_events in_part lines)
unfolding body_events
body_run in_part text low [] rise within = within
body_run in_part text low (line ∷ lines) (placed, later) within =
    let go = in_part_after in_part line.bytes in
    let high = length text + 1 in
    let meant = meaning_run text in_part line (line_stands text low line placed) in
    let rest = body_run go text (line.to + 1) lines later (omega (arith, placed.within)) in
    let after = run_from text (line.from + length line.bytes) (line.to + 1) high (body_events go lines) (omega (arith, line_long text low line placed)) rest in
    run_from text low line.from high (line_meaning in_part line ++ body_events go lines) placed.above
    (run_append text line.from (line.from + length line.bytes) high (line_meaning in_part line) (body_events go lines) meant after)

-- and after a header
after_header_run : (in_part : Bool) (text : List ℕ) (low : ℕ) (lines : List Line) → SpansRise text low lines → low ≤ length text + 1
    → NotesRun text low (length text + 1) (events_after_header in_part lines)
unfolding events_after_header
after_header_run in_part text low [] rise within = within
after_header_run in_part text low (line ∷ lines) (placed, later) within =
    let go = in_part_after in_part line.bytes in
    let high = length text + 1 in
    let further : low ≤ line.to + 1 = omega (arith, placed.above, placed.ordered) in
    let low_enough : line.to + 1 ≤ length text + 1 = omega (arith, placed.within) in
    cond_both (is_key_line line.bytes) (body_events go lines) (events_after_header go lines) (λ events. NotesRun text low high events)
    (λ gives. run_from text low (line.to + 1) high (body_events go lines) further (body_run go text (line.to + 1) lines later low_enough))
    (λ other. run_from text low (line.to + 1) high (events_after_header go lines) further (after_header_run go text (line.to + 1) lines later low_enough))

-- the events of a tune lie within it
tune_run : (text : List ℕ) → NotesRun text 0 (length text + 1) (tune_events text)
tune_run text = after_header_run false text 0 (lines_of text) (spans_rise text) (omega arith)

-- THE LAWS
-- the notes of a tune are parts of it
pub tune_parts : (s : Signature) (text : List ℕ) → AreNoteParts text (sounded_notes s [] (tune_events text))
tune_parts s text = sounded_parts s [] text 0 (length text + 1) (tune_events text) (tune_run text)

-- the notes of a music line are parts of it
pub line_parts : (s : Signature) (line : List ℕ) → AreNoteParts line (sounded_notes s [] (music_events 0 line))
line_parts s line = sounded_parts s [] line 0 (0 + length line) (music_events 0 line) (music_run line line 0 (stands_itself line))

-- the notes of a tune rise
pub tune_rise : (s : Signature) (text : List ℕ) → NotesRise 0 (sounded_notes s [] (tune_events text))
tune_rise s text = sounded_rise s [] text 0 (length text + 1) (tune_events text) (tune_run text)

-- the notes of a music line rise
pub line_rise : (s : Signature) (line : List ℕ) → NotesRise 0 (sounded_notes s [] (music_events 0 line))
line_rise s line = sounded_rise s [] line 0 (0 + length line) (music_events 0 line) (music_run line line 0 (stands_itself line))
