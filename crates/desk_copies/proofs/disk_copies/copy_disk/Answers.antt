use Rattle.desk_copies.proofs.CopyLemmas.{copied_all}
use Rattle.desk_copies.proofs.disk_copies.copy_disk.Goals as goal

pub returns-in-Ok-clause-copied : goal.returns-in-Ok-clause-copied
returns-in-Ok-clause-copied g c = copied_all g.D.Disk.honest g.D.Disk.state _ _ _ _ _ _ _ c.in_ok-size.size c.in_ok-sum.sum c.size_of.ensures.disk
    c.in_ok-size.ensures.size c.begins_empty.ensures.disk c.in_ok-begins_empty.ensures.empty c.copy_parts.ensures.from c.copy_parts.ensures.to
    c.in_ok-sum.ensures.copied c.sync.ensures.calls.was_honest c.in-Ok.ensures.sync
