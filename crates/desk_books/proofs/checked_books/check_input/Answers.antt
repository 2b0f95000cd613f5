use Rattle.std.proofs.Common.{codes, inl, refl, subst}
use Rattle.tune_scripts.specs.Streams.{streams_in}
use Rattle.desk_books.specs.CheckedBooks.{TellsBook}
use Rattle.desk_books.specs.Stages.{stage_of}
use Rattle.desk_books.proofs.checked_books.check_input.Goals as goal

pub returns-in-Some-clause-told : goal.returns-in-Some-clause-told
returns-in-Some-clause-told g c =
    let streams = streams_in g.C.Console c.read_input.new.console c.check_book.new.standard.console in
    let told = subst (λ book. TellsBook (codes "-") book streams c.check_book.result) c.as_slice.ensures.value c.check_book.ensures in
    inl (
      c.in-Some.bytes.items,
      stage_of g.C.Console c.read_input.new.console (g.K.Desk.deeds c.args.desk.now),
      c.in-Some.ensures.bytes,
      refl,
      c.in-Some.ensures.output,
      refl,
      told,
    )
