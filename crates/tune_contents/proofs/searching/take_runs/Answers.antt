use Rattle.tune_contents.proofs.searching.take_runs.Goals as goal

pub take-requires-clause-notes : goal.take-requires-clause-notes
take-requires-clause-notes g c = rw c.in-Some.is at c.requires.notes
