use Rattle.index_keys.proofs.CutLaw.{cut_within}
use Rattle.index_keys.proofs.laws.law_of_cuts.Goals as goal

pub returns : goal.returns
returns c = λ width front rest. cut_within width front rest
