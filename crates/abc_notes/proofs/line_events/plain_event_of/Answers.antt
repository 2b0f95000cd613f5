use Rattle.std.proofs.Common.{rules, ◌∙◌, sym}
use Rattle.abc_items.specs.ItemView.{item_span}
use Rattle.abc_notes.proofs.StreamLemmas.{gives_no_first, plain_step}
use Rattle.abc_notes.proofs.line_events.plain_event_of.Goals as goal

pub returns-then-is_some-clause-events : goal.returns-then-is_some-clause-events
returns-then-is_some-clause-events c =
    sym c.items.invariant.events
    ∙ plain_step c.args.base c.items.items c.next_plain.new.self (item_span c.in-Some.item) c.item_event-event.result
    c.in-Some.ensures.steps c.item_event-event.ensures

pub items-preserved : goal.items-preserved
items-preserved c = record {
  events =
      sym (gives_no_first c.item_event-event.result _ _
      (plain_step c.args.base c.items.items c.next_plain.new.self (item_span c.in-Some.item) c.item_event-event.result
      c.in-Some.ensures.steps c.item_event-event.ensures)
      (sym c.is_some.ensures ∙ c.if-is_some.false)) ∙ c.items.invariant.events;
  short = search rules;
  shorter = search rules;
}
