use Rattle.std.proofs.Common.{◌∙◌, ◌+◌, sym, ap, true}
use Rattle.abc_items.specs.ItemView.{item_span}
use Rattle.abc_items.specs.ItemSpans.{item_spans_of}
use Rattle.abc_notes.specs.Music.{chord_events}
use Rattle.abc_notes.proofs.StreamLemmas.{chord_item}
use Rattle.abc_notes.proofs.line_events.chord_events.Goals as goal

pub returns : goal.returns
returns c =
    c.new.ensures ∙ ap (λ inside. chord_events (c.args.base + c.args.item.from + 1) true (item_spans_of inside)) c.inside_of.ensures.value
    ∙ sym (chord_item c.args.base c.args.item.kind (item_span c.args.item) c.requires.chord)
