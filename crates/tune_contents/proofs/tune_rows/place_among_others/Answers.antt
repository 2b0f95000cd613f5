use Rattle.tune_contents.proofs.RowLemmas.{after_gone, before_gone}
use Rattle.tune_contents.proofs.tune_rows.place_among_others.Goals as goal

pub returns-then-after-place-clause-after : goal.returns-then-after-place-clause-after
returns-then-after-place-clause-after c = λ rises.
    after_gone c.args.number c.args.rows.now.items c.args.place c.place_after-after.result c.requires c.if-after-place.true c.place_after-after.ensures.within
    (c.place_after-after.ensures.after rises)

pub returns-else-after-place-clause-after : goal.returns-else-after-place-clause-after
returns-else-after-place-clause-after c = λ rises.
    before_gone c.args.number c.args.rows.now.items c.args.place c.place_after-after.result c.requires c.if-after-place.false
    (c.place_after-after.ensures.after rises)
