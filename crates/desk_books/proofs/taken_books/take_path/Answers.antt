use Rattle.std.proofs.Common.{inr, refl, Ok, Err, None, false, string_bytes}
use Rattle.tune_desk.specs.Results.{result_places}
use Rattle.tune_desk.proofs.SpareLemmas.{spares_both}
use Rattle.desk_books.proofs.AddLemmas.{reads_spare}
use Rattle.desk_books.proofs.taken_books.take_path.Goals as goal

pub returns-in-Ok-clause-files : goal.returns-in-Ok-clause-files
returns-in-Ok-clause-files g c =
    let places = result_places (string_bytes c.args.request.now.file.now) None false in
    let was = g.K.Desk.deeds c.args.desk.now in
    let mid = g.K.Desk.deeds c.read_book.new.desk in
    spares_both places was mid (g.K.Desk.deeds c.take_book.new.desk) (reads_spare places _ _ _ was mid c.in-Ok.ensures) c.take_book.ensures.files

pub returns-in-Err-clause-files : goal.returns-in-Err-clause-files
returns-in-Err-clause-files g c =
    reads_spare (result_places (string_bytes c.args.request.now.file.now) None false) c.args.request.now.input.now (string_bytes c.args.path.now)
    (Err c.in-Err.field-0) (g.K.Desk.deeds c.args.desk.now) (g.K.Desk.deeds c.read_book.new.desk) c.in-Err.ensures

pub returns-in-Ok-clause-takes : goal.returns-in-Ok-clause-takes
returns-in-Ok-clause-takes g c =
    inr (c.if-intake.false, Ok c.in-Ok.bytes, g.K.Desk.deeds c.read_book.new.desk, c.in-Ok.ensures, c.take_book.ensures.takes)

pub returns-in-Err-clause-takes : goal.returns-in-Err-clause-takes
returns-in-Err-clause-takes g c =
    inr (c.if-intake.false, Err c.in-Err.field-0, g.K.Desk.deeds c.read_book.new.desk, c.in-Err.ensures, (refl, c.say_unread.ensures))
