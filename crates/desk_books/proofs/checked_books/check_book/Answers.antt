use Rattle.std.proofs.Common.{◌∙◌, inl, ap, subst, max, count_by}
use Rattle.tune_scripts.specs.Streams.{streams_in}
use Rattle.told_books.specs.Fates.{is_dropped}
use Rattle.told_books.specs.ToldTunes.{book_fault, fault_of_tune}
use Rattle.desk_scenes.specs.Printing.{Prints}
use Rattle.desk_books.proofs.BookLemmas.{told_line, tunes_told_of}
use Rattle.desk_books.proofs.checked_books.check_book.Goals as goal

pub returns-in-Ok-summary : goal.returns-in-Ok-summary
returns-in-Ok-summary g c =
    let told = c.in-Ok.told in
    let by = told_line c.args.path.now c.args.book.now c.in-Ok-summary.line.items (book_fault told.too_long told.tunes.items) c.longest_text.result
    _ _ c.say_told-status.result c.longest_text.ensures.longest c.in-Ok.ensures.answer c.in-Ok-summary.ensures c.say_told-status.ensures
    (told.tunes.ok.0 ∙ tunes_told_of (λ tune. tune.fault) (fault_of_tune c.longest_text.result) told.tunes.items c.args.book.now c.in-Ok.ensures.faults)
    (ap (count_by is_dropped) c.in-Ok.ensures.fates) in
    inl (
      c.print.result,
      subst (λ line. Prints (streams_in g.C.Console c.args.standard.now.console c.print.new.standard.console) line c.print.result)
          (c.as_slice.ensures.value ∙ by.0) c.print.ensures,
      c.max.ensures ∙ ap (λ n. max n c.print.result) by.1,
    )
