use Rattle.std.proofs.Common.{◌≤◌, ◌∷◌, ◌∙◌, sym, ap, refl, subst, List, length, arith}
use Rattle.abc_fields.specs.Limits.{longest_book}
use Rattle.abc_notes.specs.Events.{Event, bar}
use Rattle.abc_notes.specs.Inside.KeptBar.{notes_left, IsKeptBar}
use Rattle.abc_notes.proofs.KeptLemmas.{kept_on, kept_new, notes_over_bar, notes_at_bar}
use Rattle.abc_notes.proofs.notes.end_bar.Goals as goal

pub take_bar-requires : goal.take_bar-requires
take_bar-requires c = omega (arith, c.requires.few)

pub returns-then-bar-lt-LONG_BAR-clause-kept : goal.returns-then-bar-lt-LONG_BAR-clause-kept
returns-then-bar-lt-LONG_BAR-clause-kept c =
    kept_on c.args.bar.now c.take_bar.new.self c.args.bar_events.now (bar ∷ c.args.events.now) c.args.events.now bar c.requires refl
    (c.take_bar.ensures.after _ c.requires.after)

pub returns-then-bar-lt-LONG_BAR-clause-notes : goal.returns-then-bar-lt-LONG_BAR-clause-notes
returns-then-bar-lt-LONG_BAR-clause-notes c =
    notes_over_bar c.args.bar.now c.take_bar.new.self c.args.bar_events.now (bar ∷ c.args.events.now) c.args.events.now c.requires refl
    (c.take_bar.ensures.after _ c.requires.after) c.take_bar.ensures.start

pub returns-clause-kept : goal.returns-clause-kept
returns-clause-kept c =
    let few : length c.args.events.now ≤ longest_book = omega (arith, c.requires.few) in
    subst (λ (bar_events : List Event). IsKeptBar c.begin_bar.new.bar bar_events c.args.events.now) (sym c.begin_bar.ensures.events)
    (kept_new c.begin_bar.new.bar c.args.events.now c.begin_bar.ensures.after few)

pub returns-clause-notes : goal.returns-clause-notes
returns-clause-notes c =
    notes_at_bar c.args.bar.now c.begin_bar.new.bar c.args.bar_events.now (bar ∷ c.args.events.now) c.args.events.now
    c.requires refl c.begin_bar.ensures.after c.begin_bar.ensures.start
    ∙ ap (λ bar_events. notes_left c.begin_bar.new.bar bar_events c.args.events.now) (sym c.begin_bar.ensures.events)
