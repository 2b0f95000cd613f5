use Rattle.tune_store.proofs.RevisionLemmas.{accepted_replace_raises, others_keep_revision, revision_counts, accepted_replace_is_current}
use Rattle.tune_store.proofs.RevisionLemmas.{refused_leaves}
use Rattle.tune_store.proofs.LimitLemmas.{step_keeps_limits}
use Rattle.tune_store.proofs.laws.law_of_revisions.Goals as goal

pub returns-clause-replaced : goal.returns-clause-replaced
returns-clause-replaced c = accepted_replace_raises

pub returns-clause-others : goal.returns-clause-others
returns-clause-others c = others_keep_revision

pub returns-clause-counted : goal.returns-clause-counted
returns-clause-counted c = revision_counts

pub returns-clause-current : goal.returns-clause-current
returns-clause-current c = accepted_replace_is_current

pub returns-clause-limits : goal.returns-clause-limits
returns-clause-limits c = step_keeps_limits

pub returns-clause-refused : goal.returns-clause-refused
returns-clause-refused c = refused_leaves
