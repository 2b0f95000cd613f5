use Rattle.std.proofs.Common.{rules, ◌∙◌, sym}
use Rattle.abc_fields.specs.LineView.{line_span}
use Rattle.abc_notes.specs.Music.{body_events}
use Rattle.abc_notes.proofs.StreamLemmas.{hand_gives, hand_spent, nothing_left, line_gives, line_in_hand, body_end}
use Rattle.abc_notes.proofs.tune_events.TuneEvents.first_event.Goals as goal

pub returns-then-is_some : goal.returns-then-is_some
returns-then-is_some c =
    hand_gives c.next-event.result c.lines.self-inside.line c.next-event.new.self (body_events c.lines.self-inside.in_part c.lines.self-inside.lines)
    c.args.self.now c.next-event.ensures.steps (c.lines.invariant.0 ∙ c.self.view_is) (sym c.is_some.ensures ∙ c.if-is_some.true)

pub returns-in_default : goal.returns-in_default
returns-in_default c =
    let in_part = c.lines.self-inside.in_part in
    let tail = body_events in_part c.lines.self-inside.lines in
    let taken = c.next-event in
    let spent = sym c.is_some.ensures ∙ c.if-is_some.false in
    let whole = c.lines.invariant.0 ∙ c.self.view_is in (
      hand_spent taken.result c.lines.self-inside.line taken.new.self tail c.args.self.now taken.ensures.steps whole spent
          ∙ body_end in_part c.lines.self-inside.lines c.in_default.ensures.steps.0,
      nothing_left taken.result c.lines.self-inside.line taken.new.self tail c.args.self.now taken.ensures.steps whole (body_events in_part c.next.new.self)
          spent
          ∙ body_end in_part c.next.new.self c.in_default.ensures.steps.1,
    )

pub returns-then-is_some-2 : goal.returns-then-is_some-2
returns-then-is_some-2 c =
    line_gives c.lines.self-inside.in_part c.in_part_after-self-inside.result c.lines.self-inside.lines c.next.new.self (line_span c.in-Some.line)
    c.next-event.result c.take_line-event.result c.lines.self-inside.line c.next-event.new.self c.take_line-event.new.hand c.args.self.now
    c.next-event.ensures.steps (c.lines.invariant.0 ∙ c.self.view_is) (sym c.is_some.ensures ∙ c.if-is_some.false)
    c.in-Some.ensures.steps c.take_line-event.ensures c.in_part_after-self-inside.ensures (sym c.is_some-in-lines.ensures ∙ c.if-is_some-2.true)

pub lines-preserved : goal.lines-preserved
lines-preserved c = (
  line_in_hand c.lines.self-inside.in_part c.in_part_after-self-inside.result c.lines.self-inside.lines c.next.new.self (line_span c.in-Some.line)
      c.next-event.result c.take_line-event.result c.lines.self-inside.line c.next-event.new.self c.take_line-event.new.hand _
      c.next-event.ensures.steps c.lines.invariant.0 (sym c.is_some.ensures ∙ c.if-is_some.false)
      c.in-Some.ensures.steps c.take_line-event.ensures c.in_part_after-self-inside.ensures (sym c.is_some-in-lines.ensures ∙ c.if-is_some-2.false),
  search rules,
)
