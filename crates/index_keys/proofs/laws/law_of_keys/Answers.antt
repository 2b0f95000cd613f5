use Rattle.index_keys.proofs.KeyOrder.{keys_rise}
use Rattle.index_keys.proofs.KeyLists.{keys_held}
use Rattle.index_keys.proofs.laws.law_of_keys.Goals as goal

pub returns-clause-rise : goal.returns-clause-rise
returns-clause-rise c = keys_rise

pub returns-clause-held : goal.returns-clause-held
returns-clause-held c = keys_held
