use Rattle.tune_journal.proofs.Rests.{rest_leaves}
use Rattle.tune_journal.proofs.journal.Journal.into_disk.Goals as goal

pub returns-clause-rest : goal.returns-clause-rest
returns-clause-rest g c = rw (← c.self.view_is) (λ h. rest_leaves c.self.inside.count (g.D.Disk.state c.self.inside.disk) (c.self.invariant.rest h))
