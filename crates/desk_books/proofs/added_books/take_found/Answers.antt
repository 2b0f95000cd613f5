use Rattle.std.proofs.Common.{inl, inr, refl, None, false, Ok, string_bytes}
use Rattle.tune_disk.specs.declared.file.Access.TheVariants.{Change}
use Rattle.tune_desk.specs.DeskDeeds.{opened, closed}
use Rattle.tune_desk.specs.Results.{result_places}
use Rattle.desk_scenes.proofs.FileLemmas.{spares_since, visits_read}
use Rattle.desk_books.proofs.AddLemmas.{around_spares}
use Rattle.desk_books.proofs.added_books.take_found.Goals as goal

pub returns-in-Ok-clause-files : goal.returns-in-Ok-clause-files
returns-in-Ok-clause-files g c =
    let file = string_bytes c.args.request.now.file.now in
    let opens = c.in-Ok.ensures in
    around_spares file (g.K.Desk.deeds c.args.desk.now) (g.K.Desk.deeds c.open_once.new.desk) (g.K.Desk.deeds c.take_all-status.new.desk)
    (g.K.Desk.deeds c.close.new.self) (opened file Change (Ok opens.old)) (closed file c.into_disk.result) opens.deeds refl
    c.take_all-status.ensures.files c.close.ensures.deed refl

pub returns-in-Err-clause-files : goal.returns-in-Err-clause-files
returns-in-Err-clause-files g c =
    let places = result_places (string_bytes c.args.request.now.file.now) None false in
    let did = c.in-Err.ensures in
    spares_since g.D.Disk places (g.K.Desk.deeds c.args.desk.now) (g.K.Desk.deeds c.open_once.new.desk) did.0 did.1
    (visits_read g.D.Disk places Change did.0 did.2)

pub returns-in-Ok-clause-takes : goal.returns-in-Ok-clause-takes
returns-in-Ok-clause-takes g c =
    let is_open = c.in-Ok.ensures.is.is_open in
    inl (record {
      around = record {
        start = c.in-Ok.archive;
        finish = c.take_all-status.new.intake.store;
        was = g.K.Desk.deeds c.open_once.new.desk;
        now = g.K.Desk.deeds c.take_all-status.new.desk;
      };
      opens = c.in-Ok.ensures;
      takes = c.take_all-status.ensures.takes is_open (c.law_of_labels.ensures is_open);
      disk = c.into_disk.result;
      held = c.into_disk.ensures.disk;
      closes = c.close.ensures.deed;
    })

pub returns-in-Err-clause-takes : goal.returns-in-Err-clause-takes
returns-in-Err-clause-takes g c = inr (c.in-Err.ensures, c.say_unopened_to_change.ensures)
