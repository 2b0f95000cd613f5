use Rattle.std.proofs.Common.{◌≡◌, ◌≤◌, ◌<◌, ◌++◌, [], ◌∷◌, Ok, Err, true, false, map, take, drop, length, rules, refl, sym, ap, ◌∙◌, subst, arith, append-nil}
use Rattle.std.proofs.Common.{append_assoc, codes}
use Rattle.tune_asking.proofs.CallLemmas.{goes_none, goes_on, good_of, call_ok, call_err, call_no_memory, call_refused, call_refused_by, call_same}
use Rattle.tune_store.specs.Questions.{exported}
use Rattle.tune_books.specs.WrittenBooks.{book_header}
use Rattle.desk_questions.proofs.RowLemmas.{told_refused, told_book}
use Rattle.desk_questions.proofs.told_answers.export.Goals as goal

pub returns-in_err-new : goal.returns-in_err-new
returns-in_err-new g c = let k = g.S.TuneStore in call_no_memory k _ _ _ _ (goes_none k c.args.store.now) (search rules)

pub returns-in_err-write_tunes : goal.returns-in_err-write_tunes
returns-in_err-write_tunes g c =
    let k = g.S.TuneStore in
    call_err k _ _ _ _ _ _ _ (goes_none k _) c.in_err-write_tunes.ensures
    (λ is_open honest refused. told_refused exported _ _ refused) (search rules)

pub returns : goal.returns
returns g c =
    let k = g.S.TuneStore in
    let start = goes_none k c.args.store.now in
    call_ok k _ _ _ _ (goes_on k _ _ _ _ _ start c.in_ok-write_tunes.ensures)
    (λ is_open honest.
    let head : c.into_vec-bytes.result.items ≡ book_header = search rules in
    let are = good_of k _ _ _ _ _ start c.in_ok-write_tunes.ensures is_open honest in
    told_book c.args.numbers.now _ _ (rw head at are) ∙ ap Ok (sym c.from_vec.ensures))
