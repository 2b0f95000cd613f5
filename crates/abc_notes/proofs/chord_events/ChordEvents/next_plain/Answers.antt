use Rattle.std.proofs.Common.{rules, ◌∙◌, sym}
use Rattle.abc_items.specs.ItemView.{item_span}
use Rattle.abc_notes.proofs.StreamLemmas.{gives_no_first, chord_step}
use Rattle.abc_notes.proofs.chord_events.ChordEvents.next_plain.Goals as goal

pub returns-then-is_some : goal.returns-then-is_some
returns-then-is_some c =
    sym c.self.view_is ∙ sym c.items.invariant.0
    ∙ chord_step c.items.self-inside.base c.items.self-inside.first c.stays_first-self-inside.result c.items.self-inside.items c.next_plain.new.self
    (item_span c.in-Some.item) c.plain_event-event.result
    c.in-Some.ensures.steps c.plain_event-event.ensures c.stays_first-self-inside.ensures

pub items-preserved : goal.items-preserved
items-preserved c = (
  sym (gives_no_first c.plain_event-event.result _ _
      (chord_step c.items.self-inside.base c.items.self-inside.first c.stays_first-self-inside.result c.items.self-inside.items c.next_plain.new.self
      (item_span c.in-Some.item) c.plain_event-event.result
      c.in-Some.ensures.steps c.plain_event-event.ensures c.stays_first-self-inside.ensures)
      (sym c.is_some.ensures ∙ c.if-is_some.false)) ∙ c.items.invariant.0,
  search rules,
)
