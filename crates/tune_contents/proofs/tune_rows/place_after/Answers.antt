use Rattle.tune_contents.proofs.RowLemmas.{row_behind, row_between}
use Rattle.tune_contents.proofs.tune_rows.place_after.Goals as goal

pub returns-then-is_at-clause-after : goal.returns-then-is_at-clause-after
returns-then-is_at-clause-after c = λ rises.
    row_behind c.args.number c.args.rows.now.items c.place_from-place.result rises (c.is_at.ensures.within c.if-is_at.true)
    (c.is_at.ensures.named c.if-is_at.true)

pub returns-else-is_at-clause-after : goal.returns-else-is_at-clause-after
returns-else-is_at-clause-after c = λ rises.
    row_between c.args.number c.args.rows.now.items c.place_from-place.result rises (c.place_from-place.ensures.before rises)
    (c.place_from-place.ensures.after rises) (c.is_at.ensures.other c.if-is_at.false)
