use Rattle.std.proofs.Common.{◌∙◌, sym, ap, subst, List}
use Rattle.abc_notes.specs.Events.{Event}
use Rattle.abc_notes.specs.Inside.KeptBar.{notes_left, IsKeptBar}
use Rattle.abc_notes.proofs.KeptLemmas.{kept_new, notes_new}
use Rattle.abc_notes.proofs.notes.Notes.new.Goals as goal

pub invariant_of-result : goal.invariant_of-result
invariant_of-result c =
    subst (λ (bar_events : List Event). IsKeptBar c.new.result bar_events c.args.events) (sym c.again.ensures)
    (kept_new c.new.result c.args.events c.new.ensures.after c.requires)

pub returns : goal.returns
returns c =
    ap (λ bar_events. notes_left c.new.result bar_events c.args.events) c.again.ensures
    ∙ notes_new c.new.result c.args.events c.args.start c.new.ensures.after c.new.ensures.start
