use Rattle.desk_copies.proofs.CopyLemmas.{summed_all}
use Rattle.desk_copies.proofs.disk_copies.sum_of_disk.Goals as goal

pub returns-in-Ok-clause-summed : goal.returns-in-Ok-clause-summed
returns-in-Ok-clause-summed g c = summed_all g.D.Disk.honest g.D.Disk.state _ _ _ c.in_ok-size.size c.in-Ok.sum c.size_of.ensures.disk
    c.in_ok-size.ensures.size c.sum_parts.ensures.disk c.in-Ok.ensures.summed
