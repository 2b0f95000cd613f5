use Rattle.tune_changes.proofs.Undone.{about_leads, takes_back, takes_stopped}
use Rattle.tune_changes.proofs.Within.{takes_within}
use Rattle.tune_changes.proofs.laws.law_of_undo.Goals as goal

pub returns-clause-about : goal.returns-clause-about
returns-clause-about c = λ old new turns is about. about_leads turns old new is about

pub returns-clause-back : goal.returns-clause-back
returns-clause-back c = takes_back

pub returns-clause-stopped : goal.returns-clause-stopped
returns-clause-stopped c = takes_stopped

pub returns-clause-within : goal.returns-clause-within
returns-clause-within c = takes_within
