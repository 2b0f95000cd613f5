use Rattle.std.proofs.Common.{refl}
use Rattle.desk_backups.proofs.ThinLemmas.{walk_begins}
use Rattle.desk_backups.proofs.old_copies.thin_each.Goals as goal

pub loop-number-init : goal.loop-number-init
loop-number-init g c = (c.requires, λ was h. walk_begins _ _ was _ h refl refl)

pub loop-number-preserved : goal.loop-number-preserved
loop-number-preserved g c = (c.in_ok-walked.ensures.found, λ was h. c.in_ok-walked.ensures.thins was (c.loop-number.invariant.1 was h))
