use Rattle.tune_contents.proofs.searching.put_runs.Goals as goal

pub put-requires-clause-notes : goal.put-requires-clause-notes
put-requires-clause-notes g c = rw c.in-Some.is at c.requires.notes

pub put-requires-clause-runs : goal.put-requires-clause-runs
put-requires-clause-runs g c = let some = rw c.in-Some.is at c.requires.come in (some.0, some.2)

pub returns-in-Ok-clause-lays : goal.returns-in-Ok-clause-lays
returns-in-Ok-clause-lays g c = λ h before after parts tunes more small puts texts.
    (let are = rw c.in-Some.is at puts in c.in-Ok.ensures.holds h before after parts tunes more small are.0 are.1 texts)
