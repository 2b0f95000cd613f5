use Rattle.std.proofs.Common.{◌≡◌, sym, ap, subst, List, ◌++◌, length, arith}
use Rattle.abc_fields.specs.Lines.{Span as Line}
use Rattle.abc_notes.specs.Inside.Bounds.{LinesAreShort}
use Rattle.abc_notes.specs.Music.{body_events, tune_events}
use Rattle.abc_notes.proofs.EventCounts.{tune_events_few}
use Rattle.abc_notes.proofs.TuneLemmas.{text_body_gives, text_body_short}
use Rattle.abc_notes.proofs.tune_events.TuneEvents.of_tune.Goals as goal

pub invariant_of-events : goal.invariant_of-events
invariant_of-events c =
    let is = c.body-lines.ensures in
    subst (λ (lines : List Line). LinesAreShort lines) (sym is.lines) (text_body_short c.args.text.now is.rising (omega (arith, is.short)))

pub returns-clause-events : goal.returns-clause-events
returns-clause-events c =
    let body = c.body-lines in
    let gives = text_body_gives c.args.text.now body.result.in_part body.result.lines body.ensures.contents body.ensures.in_part body.ensures.lines in
    λ i. c.none.ensures i ++ gives i

pub returns-clause-few : goal.returns-clause-few
returns-clause-few c =
    let body = c.body-lines in
    let gives = text_body_gives c.args.text.now body.result.in_part body.result.lines body.ensures.contents body.ensures.in_part body.ensures.lines in
    let all : c.none.result ++ body_events body.result.in_part body.result.lines ≡ tune_events c.args.text.now = λ i. c.none.ensures i ++ gives i in
    omega (arith, ap length all, tune_events_few c.args.text.now, body.ensures.short)
