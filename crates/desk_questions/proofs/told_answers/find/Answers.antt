use Rattle.std.proofs.Common.{◌≡◌, ◌≤◌, ◌<◌, ◌++◌, [], ◌∷◌, Ok, Err, true, false, map, take, drop, length, rules, refl, sym, ap, ◌∙◌, subst, arith, append-nil}
use Rattle.std.proofs.Common.{append_assoc, codes, inl, inr}
use Rattle.tune_asking.proofs.CallLemmas.{goes_none, goes_on, good_of, call_ok, call_err, call_no_memory, call_refused, call_refused_by, call_same}
use Rattle.desk_lists.specs.ListForms.{tune_list_bytes}
use Rattle.desk_questions.specs.Told.{listed_tunes, chosen}
use Rattle.desk_questions.specs.Inside.QuestionCalls.{AreRowsAt}
use Rattle.desk_questions.proofs.RowLemmas.{told_found, told_nothing, rows_of_found, never_refused}
use Rattle.desk_questions.proofs.told_answers.find.Goals as goal

pub returns-in_err-numbers : goal.returns-in_err-numbers
returns-in_err-numbers g c =
    let k = g.S.TuneStore in
    call_err k _ _ _ _ _ _ _ (goes_none k _) c.in_err-numbers.ensures
    (λ is_open honest refused same. told_nothing (listed_tunes c.args.form) c.args.conditions.now (k.state c.args.store.now) refused.0 ∙ ap Err (sym refused.1))
    (search rules)

pub returns-in_err-tune_list : goal.returns-in_err-tune_list
returns-in_err-tune_list g c =
    let k = g.S.TuneStore in
    call_no_memory k _ _ _ _ (goes_on k _ _ _ _ _ (goes_on k _ _ _ _ _ (goes_none k c.args.store.now) c.in_ok-numbers.ensures) c.in_ok-rows.ensures)
    (search rules)

pub returns-in_err-rows : goal.returns-in_err-rows
returns-in_err-rows g c =
    let k = g.S.TuneStore in
    let start = goes_none k c.args.store.now in
    call_err k _ _ _ _ _ _ _ (goes_on k _ _ _ _ _ start c.in_ok-numbers.ensures) c.in_err-rows.ensures
    (λ is_open honest refused same. absurd (never_refused c.args.conditions.now _ _ _ _
    (good_of k _ _ _ _ _ start c.in_ok-numbers.ensures is_open (c.in_err-rows.ensures.asked.was_honest honest)) (rw c.as_slice.ensures.value at refused) same))
    (search rules)

pub returns : goal.returns
returns g c =
    let k = g.S.TuneStore in
    let start = goes_none k c.args.store.now in
    let goes = goes_on k _ _ _ _ _ start c.in_ok-numbers.ensures in
    call_ok k _ _ _ _ (goes_on k _ _ _ _ _ goes c.in_ok-rows.ensures)
    (λ is_open honest same.
    let state = k.state c.args.store.now in
    let are = good_of k _ _ _ _ _ start c.in_ok-numbers.ensures is_open (c.in_ok-rows.ensures.asked.was_honest honest) in
    let rows = good_of k _ _ _ _ _ goes c.in_ok-rows.ensures is_open honest in
    told_found (listed_tunes c.args.form) c.args.conditions.now state are.asks
    ∙ ap Ok (ap (tune_list_bytes c.args.form) (sym (rows_of_found c.args.conditions.now _ state _ _ are (rw c.as_slice.ensures.value at rows) same))
    ∙ search rules))
