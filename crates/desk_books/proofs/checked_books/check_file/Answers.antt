use Rattle.std.proofs.Common.{Ok, string_bytes, subst}
use Rattle.tune_scripts.specs.Streams.{streams_in}
use Rattle.desk_books.specs.CheckedBooks.{TellsBook}
use Rattle.desk_books.proofs.checked_books.check_file.Goals as goal

pub returns-in-Ok-clause-told : goal.returns-in-Ok-clause-told
returns-in-Ok-clause-told g c =
    let streams = streams_in g.C.Console c.args.standard.now.console c.check_book.new.standard.console in
    let named = subst (λ name. TellsBook name c.as_slice.result.now streams c.check_book.result) c.as_str.ensures.value c.check_book.ensures in
    let read = subst (λ book. TellsBook (string_bytes c.args.path.now) book streams c.check_book.result) c.as_slice.ensures named in
    (Ok c.in-Ok.book, (c.in-Ok.ensures.deed, read))
