use Rattle.std.proofs.Common.{ap, sym, ◌∙◌, inr, length, arith}
use Rattle.std.proofs.lemmas.Result.{err_from_is_err_and}
use Rattle.abc_fields.specs.Limits.{longest_tune}
use Rattle.abc_fields.specs.Lines.{spans_of}
use Rattle.abc_fields.specs.Books.{book_runs, runs_answer}
use Rattle.abc_fields.proofs.BookLemmas.{book_room, book_by_rows, book_read, runs_err, runs_none, good_book, within_more}
use Rattle.abc_fields.proofs.judged_book.judge_book.Goals as goal

pub of_lines-requires : goal.of_lines-requires
of_lines-requires c =
    rw (c.again.ensures, c.of_whole-lines.ensures, c.without_mark.ensures) (book_room c.args.book.now (omega arith))

pub judge_tunes-requires : goal.judge_tunes-requires
judge_tunes-requires c =
    rw (c.again-2.ensures, c.of_whole-lines.ensures, c.without_mark.ensures) (book_room c.args.book.now (omega arith))

pub returns-in_err-count-clause-refusal : goal.returns-in_err-count-clause-refusal
returns-in_err-count-clause-refusal c =
    let p = err_from_is_err_and c.from_residual-in_err-count.result c.from_residual-in_err-count.ensures.1 in
    let front = c.again.ensures ∙ c.of_whole-lines.ensures ∙ ap spans_of c.without_mark.ensures in
    let all = c.again-2.ensures ∙ c.of_whole-lines.ensures ∙ ap spans_of c.without_mark.ensures in
    let same = book_by_rows c.args.book.now c.in_ok-header.header c.again.result c.again-2.result front all c.in_ok-header.ensures in
    rw (p.1, p.2) (inr (book_read c.args.longest c.args.book.now (omega arith)
    ∙ runs_err c.args.longest (book_runs c.args.book.now) _ (sym (ap (runs_answer c.args.longest 1) same) ∙ c.in_err-count.ensures)))

pub returns-then-count-eq0-clause-refusal : goal.returns-then-count-eq0-clause-refusal
returns-then-count-eq0-clause-refusal c =
    let front = c.again.ensures ∙ c.of_whole-lines.ensures ∙ ap spans_of c.without_mark.ensures in
    let all = c.again-2.ensures ∙ c.of_whole-lines.ensures ∙ ap spans_of c.without_mark.ensures in
    let same = book_by_rows c.args.book.now c.in_ok-header.header c.again.result c.again-2.result front all c.in_ok-header.ensures in
    let none = sym (ap length same) ∙ sym c.in_ok-count.ensures.1 ∙ c.if-count-eq0.true in
    inr (book_read c.args.longest c.args.book.now (omega arith) ∙ runs_none c.args.longest (book_runs c.args.book.now) none)

pub invariant_of-result : goal.invariant_of-result
invariant_of-result c =
    let front = c.again.ensures ∙ c.of_whole-lines.ensures ∙ ap spans_of c.without_mark.ensures in
    let whole = c.of_whole-lines.ensures ∙ ap spans_of c.without_mark.ensures in
    let good = good_book c.args.longest c.args.book.now c.in_ok-header.header c.again.result c.again-2.result c.of_whole-lines.result c.in_ok-count.count front
    c.again-2.ensures whole c.in_ok-header.ensures (omega arith) c.in_ok-count.ensures c.if-count-eq0.false in
    (good.counted, within_more c.args.longest longest_tune _ c.requires good.within)

pub returns-clause-texts : goal.returns-clause-texts
returns-clause-texts c =
    let front = c.again.ensures ∙ c.of_whole-lines.ensures ∙ ap spans_of c.without_mark.ensures in
    let whole = c.of_whole-lines.ensures ∙ ap spans_of c.without_mark.ensures in
    let good = good_book c.args.longest c.args.book.now c.in_ok-header.header c.again.result c.again-2.result c.of_whole-lines.result c.in_ok-count.count front
    c.again-2.ensures whole c.in_ok-header.ensures (omega arith) c.in_ok-count.ensures c.if-count-eq0.false in
    good.answer

pub returns-clause-within : goal.returns-clause-within
returns-clause-within c =
    let front = c.again.ensures ∙ c.of_whole-lines.ensures ∙ ap spans_of c.without_mark.ensures in
    let whole = c.of_whole-lines.ensures ∙ ap spans_of c.without_mark.ensures in
    let good = good_book c.args.longest c.args.book.now c.in_ok-header.header c.again.result c.again-2.result c.of_whole-lines.result c.in_ok-count.count front
    c.again-2.ensures whole c.in_ok-header.ensures (omega arith) c.in_ok-count.ensures c.if-count-eq0.false in
    good.within
