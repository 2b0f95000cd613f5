use Rattle.std.proofs.Common.{◌≡◌, ◌∙◌, ap, arith}
use Rattle.abc_fields.specs.Lines.{spans_of}
use Rattle.abc_fields.specs.Books.{without_mark}
use Rattle.abc_fields.specs.FileHeaders.{file_header}
use Rattle.abc_fields.specs.Inside.LinesLeft.{contents_of}
use Rattle.told_books.specs.FateLines.{dropped_from}
use Rattle.told_books.proofs.FateLemmas.{book_room, few_lines}
use Rattle.told_books.proofs.ToldLaw.{AreTold, told_length, told_kept, told_carried, told_lost, told_faults}
use Rattle.told_books.proofs.AnswerLaw.{book_told}
use Rattle.told_books.proofs.told_book_lines.told_book.Goals as goal

pub sums_of-requires-clause-room : goal.sums_of-requires-clause-room
sums_of-requires-clause-room c =
    let same : c.again-2.result ≡ spans_of (without_mark c.args.book.now) = c.again-2.ensures ∙ c.new-lines.ensures.lines
    ∙ ap spans_of c.without_mark.ensures in
    omega (arith, book_room c.args.book.now c.again-2.result same)

pub tunes_of-requires : goal.tunes_of-requires
tunes_of-requires c =
    let same : c.again-3.result ≡ spans_of (without_mark c.args.book.now) = c.again-3.ensures ∙ c.new-lines.ensures.lines
    ∙ ap spans_of c.without_mark.ensures in
    omega (arith, few_lines c.args.book.now c.again-3.result same)

pub fates_of-requires-clause-room : goal.fates_of-requires-clause-room
fates_of-requires-clause-room c =
    let same : c.again-4.result ≡ spans_of (without_mark c.args.book.now) = c.again-4.ensures ∙ c.new-lines.ensures.lines
    ∙ ap spans_of c.without_mark.ensures in
    omega (arith, few_lines c.args.book.now c.again-4.result same)

pub returns-clause-one_each : goal.returns-clause-one_each
returns-clause-one_each c =
    let told : AreTold c.args.book.now c.again-4.result c.in_ok-fates.fates.items = record {
      lines = c.again-4.ensures ∙ c.new-lines.ensures.lines ∙ ap spans_of c.without_mark.ensures;
      of_lines = c.in_ok-fates.ensures;
    } in
    omega (arith, told_length c.args.book.now c.again-4.result c.in_ok-fates.fates.items told)

pub returns-clause-kept : goal.returns-clause-kept
returns-clause-kept c =
    told_kept c.args.book.now c.again-4.result c.in_ok-fates.fates.items record {
      lines = c.again-4.ensures ∙ c.new-lines.ensures.lines ∙ ap spans_of c.without_mark.ensures;
      of_lines = c.in_ok-fates.ensures;
    }

pub returns-clause-carried : goal.returns-clause-carried
returns-clause-carried c =
    told_carried c.args.book.now c.again-4.result c.in_ok-fates.fates.items record {
      lines = c.again-4.ensures ∙ c.new-lines.ensures.lines ∙ ap spans_of c.without_mark.ensures;
      of_lines = c.in_ok-fates.ensures;
    }

pub returns-clause-lost : goal.returns-clause-lost
returns-clause-lost c =
    let told : AreTold c.args.book.now c.new-lines.result c.in_ok-fates.fates.items = record {
      lines = c.new-lines.ensures.lines ∙ ap spans_of c.without_mark.ensures;
      of_lines = rw c.again-4.ensures at c.in_ok-fates.ensures;
    } in
    omega (
      arith,
      told_lost c.args.book.now c.new-lines.result c.in_ok-fates.fates.items c.in_ok-dropped.dropped.items told
          (c.in_ok-dropped.ensures ∙ ap (λ fates. dropped_from 1 fates (contents_of c.new-lines.result)) c.as_slice-2.ensures.value),
    )

pub returns-clause-faults : goal.returns-clause-faults
returns-clause-faults c =
    let same = c.again-3.ensures in
    let sums = rw c.again-2.ensures at c.in_ok-sums.ensures in
    let moved = rw c.as_slice.ensures.value at c.in_ok-tunes.ensures in
    let told = rw same at moved in
    told_faults c.args.longest c.args.book.now c.new-lines.result c.in_ok-tunes.tunes.items (c.new-lines.ensures.lines ∙ ap spans_of c.without_mark.ensures)
    (told (file_header (contents_of c.new-lines.result)) sums)

pub returns-clause-answer : goal.returns-clause-answer
returns-clause-answer c = book_told c.args.longest c.args.book.now c.in_ok-tunes.tunes.items (returns-clause-faults c)
