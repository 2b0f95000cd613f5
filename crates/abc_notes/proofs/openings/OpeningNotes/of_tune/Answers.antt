use Rattle.std.proofs.Common.{◌≡◌, ◌∙◌, ◌++◌, [], ◌∷◌, List, length, sym, ap, subst, arith, refl, false}
use Rattle.std.specs.List.{AllByRecursion}
use Rattle.abc_fields.specs.Lines.{Span as Line}
use Rattle.abc_fields.specs.LineView.{line_span}
use Rattle.abc_fields.specs.Values.{has_percent}
use Rattle.abc_items.specs.ItemSpans.{ItemSpan}
use Rattle.abc_notes.specs.Inside.Bounds.{AreShort, LinesAreShort}
use Rattle.abc_notes.specs.Music.{line_events, line_meaning, body_events, tune_events}
use Rattle.abc_notes.specs.Pitches.{sounded_notes}
use Rattle.abc_keys.specs.Keys.{key_of_text, signature_of}
use Rattle.abc_notes.proofs.EventCounts.{tune_events_few}
use Rattle.abc_notes.proofs.TuneLemmas.{text_body_gives, text_body_short}
use Rattle.abc_notes.proofs.StreamLemmas.{line_end}
use Rattle.abc_notes.proofs.OpeningLemmas.{music_first}
use Rattle.abc_notes.proofs.openings.OpeningNotes.of_tune.Goals as goal

pub music_items-requires-clause-within : goal.music_items-requires-clause-within
music_items-requires-clause-within c =
    let body = c.body-lines.ensures in
    let all = text_body_short c.args.text.now body.rising (omega (arith, body.short)) in
    (subst (λ (lines : List Line). LinesAreShort lines) (sym body.lines ∙ sym c.again-later.ensures ∙ c.in-Some.ensures.steps) all).0

pub music_items-requires-clause-plain : goal.music_items-requires-clause-plain
music_items-requires-clause-plain c = λ is.
    (subst (AllByRecursion (λ (line : Line). has_percent line.bytes ≡ false)) (sym c.again-later.ensures ∙ c.in-Some.ensures.steps)
    (c.body-lines.ensures.plain is)).0

pub invariant_of-result : goal.invariant_of-result
invariant_of-result c =
    let text = c.args.text.now in
    let line = line_span c.in-Some.line in
    let body = c.body-lines in
    let all = text_body_short text body.ensures.rising (omega (arith, body.ensures.short)) in
    let gives = text_body_gives text body.result.in_part body.result.lines body.ensures.contents body.ensures.in_part body.ensures.lines in
    let is : body.result.lines ≡ line ∷ c.next.new.self = sym c.again-later.ensures ∙ c.in-Some.ensures.steps in
    let meant : line_events c.in-Some.line.from c.music_items.result ≡ line_meaning body.result.in_part line =
    ap (line_events c.in-Some.line.from) c.music_items.ensures.value ∙ sym (c.if-is_music.ensures refl) in
    let events = music_first body.result.in_part c.in_part_after.result body.result.lines c.next.new.self line
    (line_events c.in-Some.line.from c.music_items.result) is meant c.in_part_after.ensures in (
      c.music_items.ensures.short,
      (subst (λ (lines : List Line). LinesAreShort lines) (sym body.ensures.lines ∙ is) all).1,
      omega (arith, ap length (events ∙ gives), tune_events_few text, body.ensures.short),
    )

pub returns-then-is_music : goal.returns-then-is_music
returns-then-is_music c =
    let text = c.args.text.now in
    let line = line_span c.in-Some.line in
    let body = c.body-lines in
    let gives = text_body_gives text body.result.in_part body.result.lines body.ensures.contents body.ensures.in_part body.ensures.lines in
    let is : body.result.lines ≡ line ∷ c.next.new.self = sym c.again-later.ensures ∙ c.in-Some.ensures.steps in
    let meant : line_events c.in-Some.line.from c.music_items.result ≡ line_meaning body.result.in_part line =
    ap (line_events c.in-Some.line.from) c.music_items.ensures.value ∙ sym (c.if-is_music.ensures refl) in
    let events = music_first body.result.in_part c.in_part_after.result body.result.lines c.next.new.self line
    (line_events c.in-Some.line.from c.music_items.result) is meant c.in_part_after.ensures in
    let signature = c.new-letters.ensures ∙ c.signature_of_text.ensures ∙ ap (λ key. signature_of (key_of_text key)) body.ensures.key in
    (λ i. sounded_notes (signature i) [] ((events ∙ gives) i))

pub invariant_of-result-2 : goal.invariant_of-result-2
invariant_of-result-2 c =
    let text = c.args.text.now in
    let body = c.body-lines in
    let gives = text_body_gives text body.result.in_part body.result.lines body.ensures.contents body.ensures.in_part body.ensures.lines in
    let all : line_events 0 c.new.result ++ body_events body.result.in_part body.result.lines ≡ tune_events text =
    λ i. line_end 0 c.new.result c.new.ensures.items i ++ gives i in (
      subst (λ (spans : List ItemSpan). AreShort 0 spans) (sym c.new.ensures.items) tt,
      subst (λ (lines : List Line). LinesAreShort lines) (sym body.ensures.lines)
          (text_body_short text body.ensures.rising (omega (arith, body.ensures.short))),
      omega (arith, ap length all, tune_events_few text, body.ensures.short),
    )

pub returns : goal.returns
returns c =
    let body = c.body-lines in
    let gives = text_body_gives c.args.text.now body.result.in_part body.result.lines body.ensures.contents body.ensures.in_part body.ensures.lines in
    let signature = c.new-letters.ensures ∙ c.signature_of_text.ensures ∙ ap (λ key. signature_of (key_of_text key)) body.ensures.key in
    (λ i. sounded_notes (signature i) [] (line_end 0 c.new.result c.new.ensures.items i ++ gives i))
