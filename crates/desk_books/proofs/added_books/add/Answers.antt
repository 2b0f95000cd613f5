use Rattle.std.proofs.Common.{inl, None, false, string_bytes}
use Rattle.tune_desk.specs.Results.{result_places}
use Rattle.tune_desk.proofs.SpareLemmas.{spares_both}
use Rattle.desk_scenes.proofs.FileLemmas.{quiet_spares}
use Rattle.desk_books.proofs.AddLemmas.{adds_after}
use Rattle.desk_books.proofs.added_books.add.Goals as goal

pub returns-in-Ok-clause-files : goal.returns-in-Ok-clause-files
returns-in-Ok-clause-files g c =
    let places = result_places (string_bytes c.args.file.now) None false in
    let was = g.K.Desk.deeds c.args.desk.now in
    let mid = g.K.Desk.deeds c.find_books.new.desk in
    spares_both places was mid (g.K.Desk.deeds c.add_found.new.desk) (quiet_spares g.D.Disk places was mid c.find_books.ensures.quiet)
    c.add_found.ensures.files

pub returns-in-Err-clause-files : goal.returns-in-Err-clause-files
returns-in-Err-clause-files g c =
    quiet_spares g.D.Disk (result_places (string_bytes c.args.file.now) None false) (g.K.Desk.deeds c.args.desk.now) (g.K.Desk.deeds c.find_books.new.desk)
    c.find_books.ensures.quiet

pub returns-in-Ok-clause-adds : goal.returns-in-Ok-clause-adds
returns-in-Ok-clause-adds g c = adds_after _ _ _ _ _ _ _ c.find_books.ensures.quiet c.add_found.ensures.adds

pub returns-in-Err-clause-adds : goal.returns-in-Err-clause-adds
returns-in-Err-clause-adds g c = inl (c.find_books.ensures.quiet, c.in-Err.ensures.refused)
