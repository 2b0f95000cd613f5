use Rattle.tune_index.proofs.Beside.{few_leaves, index_beside, index_opened, list_opened, list_stored}
use Rattle.tune_index.proofs.laws.law_of_indexes.Goals as goal

pub returns-clause-few : goal.returns-clause-few
returns-clause-few c = few_leaves

pub returns-clause-beside : goal.returns-clause-beside
returns-clause-beside c = index_beside

pub returns-clause-opened : goal.returns-clause-opened
returns-clause-opened c = index_opened

pub returns-clause-listed : goal.returns-clause-listed
returns-clause-listed c = list_opened

pub returns-clause-stored : goal.returns-clause-stored
returns-clause-stored c = list_stored
