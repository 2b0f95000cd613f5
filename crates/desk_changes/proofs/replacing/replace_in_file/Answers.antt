use Rattle.std.proofs.Common.{[], inl, refl, None, false, Ok, string_bytes}
use Rattle.tune_disk.specs.declared.file.Access.TheVariants.{Change}
use Rattle.tune_undo.specs.declared.old_entries.EntryKind.TheVariants as kind
use Rattle.tune_desk.specs.DeskDeeds.{opened, closed}
use Rattle.tune_desk.specs.Results.{result_places}
use Rattle.desk_scenes.proofs.FileLemmas.{spares_since, visits_read}
use Rattle.desk_changes.specs.ReplacedTunes.{ReplacesByTurns}
use Rattle.desk_changes.proofs.AlteringLemmas.{around_spares, alters_file}
use Rattle.desk_changes.proofs.replacing.replace_in_file.Goals as goal

pub returns-in-Err-clause-files : goal.returns-in-Err-clause-files
returns-in-Err-clause-files g c =
    let places = result_places (string_bytes c.args.file.now) None false in
    let did = c.in-Err.ensures in
    spares_since g.D.Disk places (g.K.Desk.deeds c.args.desk.now) (g.K.Desk.deeds c.open_once.new.desk) did.0 did.1
    (visits_read g.D.Disk places Change did.0 did.2)

pub returns-in-Err-clause-replaces : goal.returns-in-Err-clause-replaces
returns-in-Err-clause-replaces g c = ([], inl c.in-Err.ensures, tt)

pub returns-in-Ok-clause-files : goal.returns-in-Ok-clause-files
returns-in-Ok-clause-files g c =
    let file = string_bytes c.args.file.now in
    let opens = c.in-Ok.ensures in
    around_spares file (g.K.Desk.deeds c.args.desk.now) (g.K.Desk.deeds c.open_once.new.desk) (g.K.Desk.deeds c.replace_in_archive-done.new.desk)
    (g.K.Desk.deeds c.close.new.self) (opened file Change (Ok opens.old)) (closed file c.into_disk.result) opens.deeds refl
    c.replace_in_archive-done.ensures.files c.close.ensures.deed refl

pub returns-in-Ok-clause-replaces : goal.returns-in-Ok-clause-replaces
returns-in-Ok-clause-replaces g c =
    let opens = c.in-Ok.ensures in
    let done = c.replace_in_archive-done.ensures.replaces opens.is.is_open in (
      done.0,
      alters_file g.D.Disk (string_bytes c.args.file.now) kind.Replace (ReplacesByTurns c.args.what done.0)
          c.in-Ok.archive c.replace_in_archive-done.new.archive _ _ _ _ c.into_disk.result c.replace_in_archive-done.result opens
          c.into_disk.ensures.disk c.close.ensures.deed done.1,
      done.2,
    )
