use Rattle.std.proofs.Common.{◌≡◌, ◌∙◌, ◌++◌, false, append-nil, arith, ap, length}
use Rattle.abc_items.specs.ItemSpans.{item_spans_of}
use Rattle.abc_notes.specs.Music.{body_events, line_events}
use Rattle.abc_notes.proofs.EventCounts.{items_few}
use Rattle.abc_notes.proofs.StreamLemmas.{body_end}
use Rattle.abc_notes.proofs.tune_events.TuneEvents.of_line.Goals as goal

pub returns-clause-events : goal.returns-clause-events
returns-clause-events c = (λ i. c.new.ensures i ++ body_end false c.new-2.result c.new-2.ensures.lines i) ∙ append-nil _

pub returns-clause-few : goal.returns-clause-few
returns-clause-few c =
    let all : c.new.result ++ body_events false c.new-2.result ≡ line_events 0 (item_spans_of c.args.line.now) =
    (λ i. c.new.ensures i ++ body_end false c.new-2.result c.new-2.ensures.lines i) ∙ append-nil _ in
    omega (arith, ap length all, items_few 0 c.args.line.now)
