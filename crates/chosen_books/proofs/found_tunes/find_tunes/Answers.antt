use Rattle.std.proofs.Common.{◌≡◌, [], ◌∷◌, ◌++◌, ap, sym, ◌∙◌, subst, drop, get_or}
use Rattle.abc_fields.specs.Lines.{lines_of}
use Rattle.abc_fields.specs.Books.{without_mark}
use Rattle.abc_fields.specs.Tunes.{tune_run}
use Rattle.abc_fields.specs.FileHeaders.{file_header, with_header}
use Rattle.abc_fields.specs.Inside.LinesLeft.{contents_of}
use Rattle.abc_fields.proofs.BookLemmas.{lines_plain}
use Rattle.told_books.specs.Fates.{book_lines, fates_of}
use Rattle.told_books.specs.ToldTunes.{told_tunes_from}
use Rattle.chosen_books.specs.Inside.Fronts.{AllPlain, IsFront, IsJudged}
use Rattle.told_books.specs.ToldTunes.{fault_of_tune}
use Rattle.told_books.specs.declared.fates.Fate.TheVariants.{Kept}
use Rattle.chosen_books.proofs.FoundLaw.{bad_end, between_engraves, found_between, found_first, found_other, found_start, good_end}
use Rattle.chosen_books.proofs.FoundLaw.{memory_left, next_of, told_of, tunes_end}
use Rattle.chosen_books.proofs.found_tunes.find_tunes.Goals as goal
use Rattle.chosen_books.proofs.found_tunes.find_tunes.Goals.{then-starts_tune+in_ok-take, else-starts_tune+then-is_between+in_ok-add}
use Rattle.chosen_books.proofs.found_tunes.find_tunes.Goals.{else-starts_tune+else-is_between}

pub loop-fate-init : goal.loop-fate-init
loop-fate-init c =
    let book = c.args.book.now in
    let left : contents_of c.new-lines.result ≡ book_lines book =
    ap contents_of c.new-lines.ensures.lines ∙ c.new-lines.ensures.contents ∙ ap lines_of c.without_mark.ensures in
    let same : contents_of c.again.result ≡ book_lines book = ap contents_of c.again.ensures ∙ left in
    let carries : IsFront (file_header (book_lines book)) [] c.in_ok-front.front =
    subst (λ ls. IsFront (file_header ls) [] c.in_ok-front.front) same (c.in_ok-front.ensures.front (without_mark book) same) in
    record {
      next = tt;
      ends = tt;
      found = found_first c.args.carry c.args.longest book (contents_of c.new-lines.result) c.in_ok-front.front _ left (lines_plain (without_mark book)) carries
          c.new.ensures.items c.new-2.ensures.items;
    }

pub returns-in_default-clause-good : goal.returns-in_default-clause-good
returns-in_default-clause-good c =
    let was = c.loop-fate.invariant.found in
    good_end c.args.carry c.args.longest c.args.book.now c.loop-fate.fate-index (contents_of c.loop-fate.lines) c.loop-fate.front c.loop-fate.found
    c.loop-fate.tunes c.loop-fate.carried _ was
    (tunes_end c.args.carry (file_header (book_lines c.args.book.now)) was.at (drop c.loop-fate.fate-index (fates_of (book_lines c.args.book.now)))
    (contents_of c.loop-fate.lines) (ap contents_of c.in_default.ensures.steps.0))

pub returns-in_default-clause-bad : goal.returns-in_default-clause-bad
returns-in_default-clause-bad c =
    let was = c.loop-fate.invariant.found in
    bad_end c.args.carry c.args.longest c.args.book.now c.loop-fate.fate-index (contents_of c.loop-fate.lines) c.loop-fate.front c.loop-fate.found
    c.loop-fate.tunes c.loop-fate.carried _ was
    (tunes_end c.args.carry (file_header (book_lines c.args.book.now)) was.at (drop c.loop-fate.fate-index (fates_of (book_lines c.args.book.now)))
    (contents_of c.loop-fate.lines) (ap contents_of c.in_default.ensures.steps.0))

pub loop-fate-preserved : goal.loop-fate-preserved
loop-fate-preserved c =
    let carry = c.args.carry in
    let longest = c.args.longest in
    let book = c.args.book.now in
    let i = c.loop-fate.fate-index in
    let left = contents_of c.loop-fate.lines in
    let rest = contents_of c.next.new.self in
    let line = c.in-Some.line.text.now in
    let rows = told_tunes_from longest (file_header (book_lines book)) 1 (book_lines book) in
    let items = c.deref-fate-items.result.now in
    let fate = get_or items i (Kept 0) in
    let was = c.loop-fate.invariant.found in
    let next = next_of book items i left line rest (c.deref-fate-items.ensures.value ∙ c.in_ok-told.ensures.fates) c.loop-fate-test.true
    (ap contents_of c.in-Some.ensures.steps) in
    let plain : AllPlain (line ∷ rest) = subst AllPlain next.lines was.plain in
    record {
      next = tt;
      ends = tt;
      found = elim c.if-starts_tune.branch [
        | then-starts_tune+in_ok-take w ↦
            let starts = sym c.starts_tune.ensures ∙ w.if-starts_tune.true in
            let header = file_header (book_lines book) in
            let tune = told_of carry longest book i left c.loop-fate.front c.loop-fate.found c.loop-fate.tunes c.loop-fate.carried rows
            c.in_ok-told.told.tunes.items fate line rest w.index-tune.result.now was next starts c.in_ok-told.ensures.tunes w.index-tune.ensures in
            let same = ap contents_of w.again-then-starts_tune.ensures in
            let lines = with_header (header ++ was.at.between) (tune_run rest) in
            let judged : IsJudged longest lines w.judge-answer.result =
            subst (λ ls. IsJudged longest (with_header (header ++ was.at.between) (tune_run ls)) w.judge-answer.result) same
            (w.judge-answer.ensures.answer header was.at.between was.carries (subst AllPlain (sym same) plain.1)
            (tune.fault ∙ ap (λ ls. fault_of_tune longest (with_header header (tune_run ls))) (sym same))) in
            let bytes = memory_left w.judge-answer.result _ w.judge-answer.ensures.front w.in_ok-take.ensures.memory in
            rw (w.front-is, w.found-is, w.tunes-is, w.carried-is)
            (found_start carry longest book i left c.loop-fate.front w.judge-answer.new.self c.loop-fate.found w.take.new.self c.loop-fate.tunes
            c.loop-fate.carried rows fate line rest w.index-tune.result.now.line was next starts tune.number tune.behind bytes w.judge-answer.ensures.begin
            (w.in_ok-take.ensures.good longest lines judged) (w.in_ok-take.ensures.bad longest lines judged))
        | else-starts_tune+then-is_between+in_ok-add w ↦
            let fails = sym c.starts_tune.ensures ∙ w.if-starts_tune.false in
            let some = sym w.is_between.ensures ∙ w.if-is_between.true in
            let more = w.in_ok-add.ensures (file_header (book_lines book)) was.at.between was.carries (between_engraves carry fate line some) plain.0 in
            rw (w.front-is, w.found-is, w.tunes-is, w.carried-is)
            (found_between carry longest book i left c.loop-fate.front w.add.new.self c.loop-fate.found c.loop-fate.tunes c.loop-fate.carried rows fate line
            rest was next fails some more)
        | else-starts_tune+else-is_between w ↦
            let fails = sym c.starts_tune.ensures ∙ w.if-starts_tune.false in
            let none = sym w.is_between.ensures ∙ w.if-is_between.false in
            rw (w.front-is, w.found-is, w.tunes-is, w.carried-is)
            (found_other carry longest book i left c.loop-fate.front c.loop-fate.found c.loop-fate.tunes c.loop-fate.carried rows fate line rest
            was next fails none)
      ];
    }
