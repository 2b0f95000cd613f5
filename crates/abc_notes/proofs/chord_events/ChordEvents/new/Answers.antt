use Rattle.std.proofs.Common.{sym, subst}
use Rattle.std.specs.Prelude.{List}
use Rattle.abc_items.specs.ItemSpans.{ItemSpan}
use Rattle.abc_notes.specs.Inside.Bounds.{AreShort}
use Rattle.abc_notes.proofs.ShortLemmas.{are_short}
use Rattle.abc_notes.proofs.chord_events.ChordEvents.new.Goals as goal

pub invariant_of-result : goal.invariant_of-result
invariant_of-result c =
    subst (λ (spans : List ItemSpan). AreShort c.args.base spans) (sym c.new.ensures.items)
    (are_short c.args.inside.now c.args.base 0 _ c.new.ensures.fill c.requires)
