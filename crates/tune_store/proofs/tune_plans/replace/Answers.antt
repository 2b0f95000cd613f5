use Rattle.tune_store.proofs.PlanLemmas.{names_for_book}
use Rattle.tune_store.proofs.tune_plans.replace.Goals as goal

pub returns-clause-names : goal.returns-clause-names
returns-clause-names g c = names_for_book c.replace_text.result c.args.number c.args.revision c.args.book.now c.replace_text.ensures.names
