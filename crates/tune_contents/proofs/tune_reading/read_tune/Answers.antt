use Rattle.tune_contents.proofs.tune_reading.read_tune.Goals as goal

pub returns-clause-text : goal.returns-clause-text
returns-clause-text g c = rw (← c.is_asked_again-keeps.ensures) c.read_tune_where.ensures.text
