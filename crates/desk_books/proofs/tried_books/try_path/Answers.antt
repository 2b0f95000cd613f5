use Rattle.std.proofs.Common.{Ok, Err, string_bytes}
use Rattle.desk_books.proofs.AddLemmas.{reads_quiet}
use Rattle.desk_books.proofs.tried_books.try_path.Goals as goal

pub returns-in-Ok-clause-quiet : goal.returns-in-Ok-clause-quiet
returns-in-Ok-clause-quiet g c =
    reads_quiet c.args.request.now.input.now (string_bytes c.args.path.now) (Ok c.in-Ok.bytes) (g.K.Desk.deeds c.args.desk.now)
    (g.K.Desk.deeds c.read_book.new.desk) c.in-Ok.ensures

pub returns-in-Err-clause-quiet : goal.returns-in-Err-clause-quiet
returns-in-Err-clause-quiet g c =
    reads_quiet c.args.request.now.input.now (string_bytes c.args.path.now) (Err c.in-Err.field-0) (g.K.Desk.deeds c.args.desk.now)
    (g.K.Desk.deeds c.read_book.new.desk) c.in-Err.ensures

pub returns-in-Ok-clause-tries : goal.returns-in-Ok-clause-tries
returns-in-Ok-clause-tries g c = (Ok c.in-Ok.bytes, c.in-Ok.ensures, c.try_book.ensures.tries)

pub returns-in-Err-clause-tries : goal.returns-in-Err-clause-tries
returns-in-Err-clause-tries g c = (Err c.in-Err.field-0, c.in-Err.ensures, c.say_unread.ensures)
