use Rattle.std.proofs.Common.{refl, None, false, Ok, inl, string_bytes}
use Rattle.tune_disk.specs.declared.file.Access.TheVariants.{Change}
use Rattle.tune_desk.specs.DeskDeeds.{opened, closed}
use Rattle.tune_desk.specs.Results.{result_places}
use Rattle.desk_scenes.proofs.FileLemmas.{spares_since, visits_read}
use Rattle.desk_changes.proofs.AlteringLemmas.{around_spares}
use Rattle.desk_changes.proofs.UndoLemmas.{within_file}
use Rattle.desk_changes.proofs.WorkLemmas.{course_of}
use Rattle.desk_changes.proofs.taking_back.undo_in_file.Goals as goal

pub returns-in-Err-clause-files : goal.returns-in-Err-clause-files
returns-in-Err-clause-files g c =
    let places = result_places (string_bytes c.args.file.now) None false in
    let did = c.in-Err.ensures in
    spares_since g.D.Disk places (g.K.Desk.deeds c.args.desk.now) (g.K.Desk.deeds c.open_once.new.desk) did.0 did.1
    (visits_read g.D.Disk places Change did.0 did.2)

pub returns-in-Err-clause-undoes : goal.returns-in-Err-clause-undoes
returns-in-Err-clause-undoes g c = inl c.in-Err.ensures

pub returns-in-Ok-clause-files : goal.returns-in-Ok-clause-files
returns-in-Ok-clause-files g c =
    let file = string_bytes c.args.file.now in
    let opens = c.in-Ok.ensures in
    around_spares file (g.K.Desk.deeds c.args.desk.now) (g.K.Desk.deeds c.open_once.new.desk) (g.K.Desk.deeds c.undo_in_archive-done.new.desk)
    (g.K.Desk.deeds c.close.new.self) (opened file Change (Ok opens.old)) (closed file c.into_disk.result) opens.deeds refl
    c.undo_in_archive-done.ensures.works.spares c.close.ensures.deed refl

pub returns-in-Ok-clause-undoes : goal.returns-in-Ok-clause-undoes
returns-in-Ok-clause-undoes g c =
    let file = string_bytes c.args.file.now in
    let opens = c.in-Ok.ensures in
    within_file g.D.Disk file c.args.count _ c.undo_in_archive-done.result opens.old c.into_disk.result
    (course_of g.D.Disk file c.in-Ok.archive c.undo_in_archive-done.new.archive (g.K.Desk.deeds c.open_once.new.desk)
    (g.K.Desk.deeds c.undo_in_archive-done.new.desk)) (g.K.Desk.deeds c.args.desk.now) (g.K.Desk.deeds c.close.new.self)
    (record { is = opens.is; became = c.into_disk.ensures.disk; began = opens.deeds; ended = c.close.ensures.deed }) c.undo_in_archive-done.ensures.undoes
