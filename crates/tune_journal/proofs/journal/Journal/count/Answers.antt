use Rattle.std.proofs.Common.{sym}
use Rattle.tune_journal.proofs.Rests.{rest_leaves}
use Rattle.tune_journal.proofs.Agreeing.{length-pages_of, sized_pages}
use Rattle.tune_journal.proofs.journal.Journal.count.Goals as goal

pub returns-clause-count : goal.returns-clause-count
returns-clause-count g c = rw (← c.self.view_is) (sym (length-pages_of c.self.inside.count (g.D.Disk.state c.self.inside.disk).seen))

pub returns-clause-rest : goal.returns-clause-rest
returns-clause-rest g c = rw (← c.self.view_is) (λ h. rest_leaves c.self.inside.count (g.D.Disk.state c.self.inside.disk) (c.self.invariant.rest h))

pub returns-clause-sized : goal.returns-clause-sized
returns-clause-sized g c = rw (← c.self.view_is) (λ h. sized_pages c.self.inside.count _ (c.self.invariant.rest h).pages.long)
