use Rattle.tune_contents.proofs.RowLemmas.{no_row}
use Rattle.tune_contents.proofs.tune_rows.place_of.Goals as goal

pub returns-else-is_at-clause-none : goal.returns-else-is_at-clause-none
returns-else-is_at-clause-none c = λ rises.
    no_row c.args.number c.args.rows.now.items c.place_from-place.result rises (c.place_from-place.ensures.before rises)
    (c.place_from-place.ensures.after rises) (c.is_at.ensures.other c.if-is_at.false)
