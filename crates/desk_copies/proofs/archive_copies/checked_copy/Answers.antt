use Rattle.desk_copies.proofs.CopyChecks.{checks_copy}
use Rattle.desk_copies.proofs.archive_copies.checked_copy.Goals as goal

pub returns-in-Ok-counts-clause-checked : goal.returns-in-Ok-counts-clause-checked
returns-in-Ok-counts-clause-checked g c = checks_copy g.D.Disk.honest g.D.Disk.state c.read_again-outcome.result c.args.disk c.into_disk-disk.result
    c.read_again-outcome.new.disk c.in-Ok.archive c.in-Ok-counts.counts c.args.sum c.into_disk-disk.ensures.disk c.in-Ok.ensures.state
    (λ met. c.into_disk-disk.ensures.rest met c.in-Ok.ensures.is_open) c.in-Ok-counts.ensures.counts c.read_again-outcome.ensures.disk
    c.read_again-outcome.ensures.same c.read_again-outcome.ensures.copied
