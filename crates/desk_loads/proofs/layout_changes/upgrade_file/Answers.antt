use Rattle.std.proofs.Common.{string_bytes, None, false}
use Rattle.tune_disk.specs.declared.file.Access.TheVariants.{Change}
use Rattle.tune_desk.specs.Results.{result_places}
use Rattle.desk_scenes.proofs.FileLemmas.{spares_since, visits_read}
use Rattle.desk_loads.proofs.UpgradeLemmas.{visit_spares}
use Rattle.desk_loads.proofs.layout_changes.upgrade_file.Goals as goal

pub returns-in-Err-clause-files : goal.returns-in-Err-clause-files
returns-in-Err-clause-files g c =
    let places = result_places (string_bytes c.args.file.now) None false in
    let did = c.in-Err.ensures in
    spares_since g.D.Disk places (g.K.Desk.deeds c.args.desk.now) (g.K.Desk.deeds c.open_once.new.desk) did.0 did.1
    (visits_read g.D.Disk places Change did.0 did.2)

pub returns-in-Ok-done-clause-files : goal.returns-in-Ok-done-clause-files
returns-in-Ok-done-clause-files g c =
    visit_spares g.D.Disk (string_bytes c.args.file.now) c.in-Ok.archive c.upgrade_archive-done.new.archive (g.K.Desk.deeds c.args.desk.now)
    (g.K.Desk.deeds c.open_once.new.desk) (g.K.Desk.deeds c.close.new.self) c.into_disk.result c.in-Ok.ensures c.close.ensures.deed

pub returns-in-Err-done-clause-files : goal.returns-in-Err-done-clause-files
returns-in-Err-done-clause-files g c =
    visit_spares g.D.Disk (string_bytes c.args.file.now) c.in-Ok.archive c.upgrade_archive-done.new.archive (g.K.Desk.deeds c.args.desk.now)
    (g.K.Desk.deeds c.open_once.new.desk) (g.K.Desk.deeds c.close.new.self) c.into_disk.result c.in-Ok.ensures c.close.ensures.deed
