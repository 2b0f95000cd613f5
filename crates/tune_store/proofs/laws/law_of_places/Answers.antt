use Rattle.tune_store.proofs.SetLaw.{tunes_of, others_keep_places, renumber_exports, delete_held, delete_free}
use Rattle.tune_store.proofs.laws.law_of_places.Goals as goal

pub returns-clause-tunes : goal.returns-clause-tunes
returns-clause-tunes c = tunes_of

pub returns-clause-others : goal.returns-clause-others
returns-clause-others c = others_keep_places

pub returns-clause-exports : goal.returns-clause-exports
returns-clause-exports c = renumber_exports

pub returns-clause-held : goal.returns-clause-held
returns-clause-held c = delete_held

pub returns-clause-free : goal.returns-clause-free
returns-clause-free c = delete_free
