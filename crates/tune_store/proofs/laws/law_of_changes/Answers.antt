use Rattle.tune_store.proofs.KeptLemmas.{kept, only_kept}
use Rattle.tune_store.proofs.laws.law_of_changes.Goals as goal

pub returns-clause-kept : goal.returns-clause-kept
returns-clause-kept c = kept

pub returns-clause-changed : goal.returns-clause-changed
returns-clause-changed c = only_kept
