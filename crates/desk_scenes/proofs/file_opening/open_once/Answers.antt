use Rattle.std.proofs.Common.{string_bytes}
use Rattle.desk_scenes.specs.Visits.{visit, failed_visit, spared, failed}
use Rattle.desk_scenes.proofs.VisitLemmas.{two_deeds, spares_since}
use Rattle.desk_scenes.proofs.file_opening.open_once.Goals as goal

pub returns-in-Err-open : goal.returns-in-Err-open
returns-in-Err-open g c = (
  visit (string_bytes c.args.file.now) c.args.access c.in-Ok.disk c.in-Err-open.refused.disk,
  two_deeds _ _ _ _ _ c.in-Ok.ensures.deed c.close.ensures.deed,
  spared c.in-Ok.disk c.in-Err-open.refused.disk
      (spares_since g.D.Disk c.in-Ok.disk c.in-Err-open.refused.disk c.in-Err-open.ensures.leaves),
)

pub returns-in-Read : goal.returns-in-Read
returns-in-Read g c =
    (failed_visit (string_bytes c.args.file.now) c.args.access c.in-Err.fault, c.in-Err.ensures.deed, failed c.in-Err.fault)

pub returns-in-Change : goal.returns-in-Change
returns-in-Change g c =
    (failed_visit (string_bytes c.args.file.now) c.args.access c.in-Err.fault, c.in-Err.ensures.deed, failed c.in-Err.fault)
