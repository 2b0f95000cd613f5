use Rattle.std.proofs.Common.{rules, None, ◌∙◌, sym, ap, ◌++◌}
use Rattle.std.proofs.lemmas.Bool.{true≢false}
use Rattle.abc_items.specs.ItemView.{item_span}
use Rattle.abc_items.specs.Plain.{past_asides}
use Rattle.abc_notes.specs.Music.{line_events}
use Rattle.abc_notes.proofs.StreamLemmas.{hand_gives, hand_spent, nothing_left, item_gives, item_passed, line_step, line_end, no_asides}
use Rattle.abc_notes.proofs.line_events.LineEvents.first_event.Goals as goal

pub returns-then-is_some : goal.returns-then-is_some
returns-then-is_some c =
    hand_gives c.next_of_chord-event.result c.items.self-inside.chord c.next_of_chord-event.new.chord
    (line_events c.items.self-inside.base c.items.self-inside.items) c.args.self.now
    c.next_of_chord-event.ensures.steps (c.items.invariant.0 ∙ c.self.view_is) (sym c.is_some.ensures ∙ c.if-is_some.true)

pub returns-in_default : goal.returns-in_default
returns-in_default c =
    let base = c.items.self-inside.base in
    let items = past_asides c.items.self-inside.items in
    let tail = line_events base items in
    let taken = c.next_of_chord-event in
    let spent = sym c.is_some.ensures ∙ c.if-is_some.false in
    let whole = ap (λ rest. c.items.self-inside.chord ++ rest) (no_asides base c.items.self-inside.items) ∙ c.items.invariant.0 ∙ c.self.view_is in (
      hand_spent taken.result c.items.self-inside.chord taken.new.chord tail c.args.self.now taken.ensures.steps whole spent
          ∙ line_end base items c.in_default.ensures.steps.0,
      nothing_left taken.result c.items.self-inside.chord taken.new.chord tail c.args.self.now taken.ensures.steps whole
          (line_events base c.next_telling.new.items) spent
          ∙ line_end base c.next_telling.new.items c.in_default.ensures.steps.1,
    )

pub returns-then-is_some-2 : goal.returns-then-is_some-2
returns-then-is_some-2 c =
    let base = c.items.self-inside.base in
    let whole = ap (λ rest. c.items.self-inside.chord ++ rest) (no_asides base c.items.self-inside.items) ∙ c.items.invariant.0 ∙ c.self.view_is in
    item_gives base (past_asides c.items.self-inside.items) c.next_telling.new.items (item_span c.in-Some.item) c.next_of_chord-event.result
    c.item_event-event.result
    c.items.self-inside.chord c.next_of_chord-event.new.chord c.args.self.now c.next_of_chord-event.ensures.steps whole
    (sym c.is_some.ensures ∙ c.if-is_some.false) c.in-Some.ensures.steps c.item_event-event.ensures (sym c.is_some-in-items.ensures ∙ c.if-is_some-2.true)

pub items-preserved : goal.items-preserved
items-preserved c =
    let base = c.items.self-inside.base in
    let whole = ap (λ rest. c.items.self-inside.chord ++ rest) (no_asides base c.items.self-inside.items) ∙ c.items.invariant.0 in (
      item_passed base (past_asides c.items.self-inside.items) c.next_telling.new.items (item_span c.in-Some.item) c.next_of_chord-event.result
          c.item_event-event.result
          c.items.self-inside.chord c.next_of_chord-event.new.chord _ c.next_of_chord-event.ensures.steps whole
          (sym c.is_some.ensures ∙ c.if-is_some.false) c.in-Some.ensures.steps c.item_event-event.ensures
          (sym c.is_some-in-items.ensures ∙ c.if-is_some-2.false),
      (search rules, c.next_of_chord-event.ensures.ended),
    )

pub items-preserved-then-is_chord : goal.items-preserved-then-is_chord
items-preserved-then-is_chord c =
    let base = c.items.self-inside.base in
    let items = past_asides c.items.self-inside.items in
    let whole = ap (λ rest. c.items.self-inside.chord ++ rest) (no_asides base c.items.self-inside.items) ∙ c.items.invariant.0 in (
      sym (hand_spent c.next_of_chord-event.result c.items.self-inside.chord c.next_of_chord-event.new.chord
          (line_events base items) _ c.next_of_chord-event.ensures.steps whole
          (sym c.is_some.ensures ∙ c.if-is_some.false)
          ∙ line_step base items c.next_telling.new.items (item_span c.in-Some.item) None
          c.chord_events-self-inside.result
          c.in-Some.ensures.steps c.chord_events-self-inside.ensures),
      (search rules, λ ended. absurd (true≢false ended)),
    )
