use Rattle.tune_contents.proofs.OldTuneLemmas.{none_read, old_read}
use Rattle.tune_contents.proofs.searching.old_tune.Goals as goal

pub returns-in-None-clause-tune : goal.returns-in-None-clause-tune
returns-in-None-clause-tune g c = λ h ahead tunes are holds.
    none_read c.args.layout c.args.edit.now.next ahead tunes c.args.rows.now.items c.args.change.now c.in-None.ensures.place are holds

pub returns-in-Ok-clause-tune : goal.returns-in-Ok-clause-tune
returns-in-Ok-clause-tune g c = λ h ahead tunes are holds.
    old_read c.args.change.now c.args.rows.now.items tunes c.in-Some.place c.in-Ok.tune c.in-Some.ensures.place c.in-Ok.ensures.number
    (c.in-Ok.ensures.tune h ahead tunes are holds)
