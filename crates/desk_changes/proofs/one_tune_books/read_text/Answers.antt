use Rattle.std.proofs.Common.{string_bytes, subst}
use Rattle.std.specs.Prelude.{IfSome}
use Rattle.tune_scripts.specs.Streams.{streams_in}
use Rattle.desk_changes.specs.ReplacedTunes.{IsBookOf}
use Rattle.desk_changes.proofs.ReplacingLemmas.{text_is_read}
use Rattle.desk_changes.proofs.one_tune_books.read_text.Goals as goal

pub returns-in-Some-clause-text : goal.returns-in-Some-clause-text
returns-in-Some-clause-text g c =
    text_is_read (string_bytes c.args.path.now) c.in-Some.book c.text_in.result
    (streams_in g.C.Console c.args.standard.now.console c.read_book.new.standard.console)
    (g.K.Desk.deeds c.args.desk.now) (g.K.Desk.deeds c.read_book.new.desk) c.in-Some.ensures.book
    (subst (λ book. IfSome c.text_in.result (λ text. IsBookOf text book)) c.as_slice.ensures c.text_in.ensures)
