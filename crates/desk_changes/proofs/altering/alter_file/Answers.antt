use Rattle.std.proofs.Common.{◌≡◌, refl, None, false, Ok, string_bytes}
use Rattle.tune_disk.specs.declared.file.Access.TheVariants.{Change}
use Rattle.tune_changes.specs.Planning.{planned_by}
use Rattle.tune_desk.specs.DeskDeeds.{opened, closed}
use Rattle.tune_desk.specs.Results.{result_places}
use Rattle.desk_scenes.proofs.FileLemmas.{spares_since, visits_read}
use Rattle.desk_changes.specs.Kinds.{kind_of_alteration}
use Rattle.desk_changes.proofs.AlteringLemmas.{around_spares, alters_file}
use Rattle.desk_changes.proofs.altering.alter_file.Goals as goal

pub returns-in-Err-clause-files : goal.returns-in-Err-clause-files
returns-in-Err-clause-files g c =
    let places = result_places (string_bytes c.args.file.now) None false in
    let did = c.in-Err.ensures in
    spares_since g.D.Disk places (g.K.Desk.deeds c.args.desk.now) (g.K.Desk.deeds c.open_once.new.desk) did.0 did.1
    (visits_read g.D.Disk places Change did.0 did.2)

pub returns-in-Ok-clause-files : goal.returns-in-Ok-clause-files
returns-in-Ok-clause-files g c =
    let file = string_bytes c.args.file.now in
    let opens = c.in-Ok.ensures in
    around_spares file (g.K.Desk.deeds c.args.desk.now) (g.K.Desk.deeds c.open_once.new.desk) (g.K.Desk.deeds c.alter_archive-done.new.desk)
    (g.K.Desk.deeds c.close.new.self) (opened file Change (Ok opens.old)) (closed file c.into_disk.result) opens.deeds refl
    c.alter_archive-done.ensures.files c.close.ensures.deed refl

pub returns-in-Ok-clause-alters : goal.returns-in-Ok-clause-alters
returns-in-Ok-clause-alters g c =
    let opens = c.in-Ok.ensures in
    alters_file g.D.Disk (string_bytes c.args.file.now) (kind_of_alteration c.args.change.now) (λ state turns. planned_by c.args.change.now state ≡ Ok turns)
    c.in-Ok.archive c.alter_archive-done.new.archive _ _ _ _ c.into_disk.result c.alter_archive-done.result opens c.into_disk.ensures.disk c.close.ensures.deed
    (c.alter_archive-done.ensures.alters opens.is.is_open (c.law_of_sets.ensures opens.is.is_open))
