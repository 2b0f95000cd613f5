use Rattle.std.proofs.Common.{rules, ◌∙◌, sym}
use Rattle.abc_items.specs.ItemView.{item_span}
use Rattle.abc_items.specs.Plain.{past_asides}
use Rattle.abc_notes.proofs.StreamLemmas.{gives_first, gives_no_first, chord_step, chord_end, no_chord_asides}
use Rattle.abc_notes.proofs.chord_events.ChordEvents.first_event.Goals as goal

pub returns-in_default : goal.returns-in_default
returns-in_default c =
    let base = c.items.self-inside.base in
    let first = c.items.self-inside.first in
    let items = c.items.self-inside.items in (
      sym c.self.view_is ∙ sym c.items.invariant.0 ∙ sym (no_chord_asides base first items)
          ∙ chord_end base first (past_asides items) c.in_default.ensures.steps.0,
      chord_end base first c.next_telling.new.items c.in_default.ensures.steps.1,
    )

pub returns-then-is_some : goal.returns-then-is_some
returns-then-is_some c =
    gives_first c.plain_event-event.result c.args.self.now _
    (sym c.self.view_is ∙ sym c.items.invariant.0
    ∙ sym (no_chord_asides c.items.self-inside.base c.items.self-inside.first c.items.self-inside.items)
    ∙ chord_step c.items.self-inside.base c.items.self-inside.first c.stays_first-self-inside.result (past_asides c.items.self-inside.items)
    c.next_telling.new.items (item_span c.in-Some.item) c.plain_event-event.result
    c.in-Some.ensures.steps c.plain_event-event.ensures c.stays_first-self-inside.ensures)
    (sym c.is_some.ensures ∙ c.if-is_some.true)

pub items-preserved : goal.items-preserved
items-preserved c = (
  sym (gives_no_first c.plain_event-event.result _ _
      (sym (no_chord_asides c.items.self-inside.base c.items.self-inside.first c.items.self-inside.items)
      ∙ chord_step c.items.self-inside.base c.items.self-inside.first c.stays_first-self-inside.result (past_asides c.items.self-inside.items)
      c.next_telling.new.items (item_span c.in-Some.item) c.plain_event-event.result
      c.in-Some.ensures.steps c.plain_event-event.ensures c.stays_first-self-inside.ensures)
      (sym c.is_some.ensures ∙ c.if-is_some.false)) ∙ c.items.invariant.0,
  search rules,
)
