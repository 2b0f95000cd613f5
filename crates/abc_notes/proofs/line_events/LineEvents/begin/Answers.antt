use Rattle.std.proofs.Common.{◌∙◌, ◌++◌, List, sym, ap, subst}
use Rattle.abc_items.specs.ItemSpans.{ItemSpan}
use Rattle.abc_notes.specs.Inside.Bounds.{AreShort}
use Rattle.abc_notes.specs.Music.{line_events}
use Rattle.abc_notes.proofs.ShortLemmas.{are_short}
use Rattle.abc_notes.proofs.StreamLemmas.{first_of_none}
use Rattle.abc_notes.proofs.line_events.LineEvents.begin.Goals as goal

pub invariant_of-self : goal.invariant_of-self
invariant_of-self c = (
  subst (λ (spans : List ItemSpan). AreShort c.args.base spans) (sym c.new-self-inside.ensures.items)
      (are_short c.args.line.now c.args.base 0 _ c.new-self-inside.ensures.fill c.requires.short),
  λ ended. first_of_none c.self.inside.chord _ (c.self.view_is ∙ c.requires.spent),
)

pub returns : goal.returns
returns c =
    ap (λ chord. chord ++ line_events c.args.base c.new-self-inside.result) (first_of_none c.self.inside.chord _ (c.self.view_is ∙ c.requires.spent))
    ∙ ap (line_events c.args.base) c.new-self-inside.ensures.items
