use Rattle.tune_changes.specs.Bringing.{brought}
use Rattle.tune_changes.specs.ChangedStates.{with_content}
use Rattle.tune_changes.proofs.Leading.{leads_left}
use Rattle.tune_changes.proofs.Accepted.{only}
use Rattle.tune_changes.proofs.Faces.{its_content, others_stay}
use Rattle.tune_changes.proofs.Undone.{brings, each_made}
use Rattle.tune_changes.proofs.Within.{set_stopped}
use Rattle.tune_changes.proofs.laws.law_of_bringing.Goals as goal

pub returns-clause-brings : goal.returns-clause-brings
returns-clause-brings c = brings

pub returns-clause-only : goal.returns-clause-only
returns-clause-only c = only

pub returns-clause-each : goal.returns-clause-each
returns-clause-each c = each_made

pub returns-clause-its : goal.returns-clause-its
returns-clause-its c = its_content

pub returns-clause-others : goal.returns-clause-others
returns-clause-others c = others_stay

pub returns-clause-resumed : goal.returns-clause-resumed
returns-clause-resumed c = λ state subject to count is can.
    leads_left state (with_content subject to state) (brought subject to state) count (brings state subject to is can)

pub returns-clause-stopped : goal.returns-clause-stopped
returns-clause-stopped c = set_stopped
