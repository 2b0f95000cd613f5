use Rattle.index_keys.proofs.RisingEntries.{inserted_all_rises, removed_all_rises, inserted_all_fit, removed_all_fit}
use Rattle.index_keys.proofs.laws.law_of_entries.Goals as goal

pub returns-clause-rise_more : goal.returns-clause-rise_more
returns-clause-rise_more c = λ entries run. inserted_all_rises run entries

pub returns-clause-rise_less : goal.returns-clause-rise_less
returns-clause-rise_less c = λ entries run. removed_all_rises run entries

pub returns-clause-fit_more : goal.returns-clause-fit_more
returns-clause-fit_more c = λ width entries run fit more. inserted_all_fit width run entries more fit

pub returns-clause-fit_less : goal.returns-clause-fit_less
returns-clause-fit_less c = λ width entries run. removed_all_fit width run entries
