use Rattle.tune_archive.proofs.OpenedArchives.{claimed_state, unclaimed}
use Rattle.tune_archive.proofs.archive.Archive.claimed.Goals as goal

pub returns-in-Ok-clause-state : goal.returns-in-Ok-clause-state
returns-in-Ok-clause-state g c =
    claimed_state g.D.Disk.honest g.D.Disk.state c.claim.new.opening.disk c.args.opening.pages c.claim.new.opening.pages c.with_claims.result
    c.with_claims.ensures.disk c.in-Ok.ensures.looks.same_pages c.with_claims.ensures.state

pub returns-in-Ok-clause-refused : goal.returns-in-Ok-clause-refused
returns-in-Ok-clause-refused g c =
    unclaimed g.D.Disk.honest c.claim.new.opening.disk c.args.opening.pages c.claim.new.opening.pages c.in-Ok.contents c.claim.new.opening.claimed
    c.with_claims.result c.with_claims.ensures.disk c.in-Ok.ensures.looks.same_pages c.in-Ok.ensures.claimed c.with_claims.ensures.refused
