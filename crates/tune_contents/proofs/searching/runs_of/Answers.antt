use Rattle.std.proofs.Common.{refl}
use Rattle.tune_contents.proofs.SearchingLemmas.{small_texts}
use Rattle.tune_contents.proofs.searching.runs_of.Goals as goal

pub returns-in-Ok-clause-runs : goal.returns-in-Ok-clause-runs
returns-in-Ok-clause-runs c = (refl, (small_texts c.args.first c.args.texts.now c.requires, c.in-Ok.ensures.runs))
