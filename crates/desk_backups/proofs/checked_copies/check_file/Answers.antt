use Rattle.std.proofs.Common.{refl, string_bytes}
use Rattle.desk_scenes.proofs.QuietLemmas.{quiet_one}
use Rattle.desk_backups.proofs.CheckLemmas.{quiet_checked, tells_counts}
use Rattle.desk_backups.proofs.checked_copies.check_file.Goals as goal

pub returns-in-Ok-clause-quiet : goal.returns-in-Ok-clause-quiet
returns-in-Ok-clause-quiet g c = quiet_checked g.D.Disk (string_bytes c.args.copy.now) c.in-Ok.source c.check_disk-disk.result _ _ _ _
    c.in-Ok.ensures.deed c.check_disk-disk.ensures c.close.ensures.deed

pub returns-in-Ok-clause-checks : goal.returns-in-Ok-clause-checks
returns-in-Ok-clause-checks g c = tells_counts g.D.Disk (string_bytes c.args.copy.now) c.in-Ok.source c.check_disk-disk.result _ _ _ _
    c.in-Ok.ensures.deed c.check_disk-disk.ensures c.close.ensures.deed

pub returns-in-Err-clause-quiet : goal.returns-in-Err-clause-quiet
returns-in-Err-clause-quiet g c = quiet_one _ _ _ c.in-Err.ensures.deed refl

pub returns-in-Err-clause-checks : goal.returns-in-Err-clause-checks
returns-in-Err-clause-checks g c = quiet_one _ _ _ c.in-Err.ensures.deed refl
