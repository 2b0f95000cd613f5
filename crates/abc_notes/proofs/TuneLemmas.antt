-- The header of a tune, and the bounds of its lines.
use Rattle.std.proofs.Common.{◌≡◌, ℕ, ◌+◌, ◌≤◌, List, [], ◌∷◌, length, map, drop, Bool, false, zero, suc, refl, ap, sym, ◌∙◌, arith, ⊎_elim}
use Rattle.std.specs.List.{fold}
use Rattle.std.proofs.lemmas.Bool.{cases_Bool}
use Rattle.abc_fields.specs.Limits.{longest_book}
use Rattle.abc_fields.specs.Fields.{header_of, body_spans}
use Rattle.abc_fields.specs.Lines.{Span as Line, SpansRise, lines_of, spans_of}
use Rattle.abc_fields.specs.LineKinds.{in_part_after, part_open_after}
use Rattle.abc_fields.specs.Tunes.{is_key_line}
use Rattle.abc_notes.proofs.TextParts.{line_long}
use Rattle.abc_notes.specs.Inside.Bounds.{LinesAreShort}
use Rattle.abc_notes.specs.Music.{events_after_header, body_events, tune_events}

-- the events of a tune are those of its lines after the header
body_gives : (in_part : Bool) (lines : List Line)
    → body_events (fold in_part_after in_part (header_of (map (λ s. s.bytes) lines))) (drop (length (header_of (map (λ s. s.bytes) lines))) lines)
    ≡ events_after_header in_part lines
unfolding body_events events_after_header
body_gives in_part [] = refl
body_gives in_part (line ∷ lines) = ⊎_elim
    (λ is. rw is refl)
    (λ other. rw other (body_gives (in_part_after in_part line.bytes) lines))
    (cases_Bool (is_key_line line.bytes))

-- the lines of a short text
lines_are_short : (text : List ℕ) (low : ℕ) (spans : List Line) → SpansRise text low spans → length text ≤ longest_book → LinesAreShort spans
lines_are_short text low [] rise short = tt
lines_are_short text low (span ∷ spans) (placed, later) short =
    (omega (arith, placed.within, line_long text low span placed), lines_are_short text (span.to + 1) spans later short)

-- and those of them that are left after the first ones
later_are_short : (n : ℕ) (lines : List Line) → LinesAreShort lines → LinesAreShort (drop n lines)
later_are_short zero lines short = short
later_are_short (suc n) [] short = tt
later_are_short (suc n) (line ∷ lines) short = later_are_short n lines short.1

-- so it is for what follows the header of a text
pub text_body_gives : (text : List ℕ) (in_part : Bool) (lines : List Line) → map (λ s. s.bytes) (spans_of text) ≡ lines_of text
    → in_part ≡ part_open_after (header_of (lines_of text)) → lines ≡ body_spans text → body_events in_part lines ≡ tune_events text
text_body_gives text in_part lines contents part body =
    (λ i. body_events (part i) (body i))
    ∙ ap (λ ls. body_events (part_open_after (header_of ls)) (drop (length (header_of ls)) (spans_of text))) (sym contents)
    ∙ body_gives false (spans_of text)

pub text_body_short : (text : List ℕ) → SpansRise text 0 (spans_of text) → length text ≤ longest_book → LinesAreShort (body_spans text)
text_body_short text rise short = later_are_short (length (header_of (lines_of text))) (spans_of text) (lines_are_short text 0 (spans_of text) rise short)
