use Rattle.std.proofs.Common.{◌≡◌, List, ◌≤◌, ◌<◌, ◌++◌, [], ◌∷◌, Ok, Err, true, false, map, take, drop, length, rules, refl, sym, ap, ◌∙◌, subst, arith}
use Rattle.std.proofs.Common.{append-nil, append_assoc, codes}
use Rattle.tune_asking.proofs.CallLemmas.{goes_none, goes_on, good_of, call_ok, call_err, call_no_memory, call_refused, call_refused_by, call_same}
use Rattle.std.proofs.lemmas.List.{length-map}
use Rattle.tune_store.specs.declared.tune.Tune.{Tune}
use Rattle.desk_lists.specs.ListForms.{count_line}
use Rattle.desk_questions.proofs.RowLemmas.{told_found, told_nothing}
use Rattle.desk_questions.specs.Told.{found_by_all}
use Rattle.desk_questions.proofs.told_answers.count.Goals as goal

pub returns-in_err-numbers : goal.returns-in_err-numbers
returns-in_err-numbers g c =
    let k = g.S.TuneStore in
    call_err k _ _ _ _ _ _ _ (goes_none k _) c.in_err-numbers.ensures
    (λ is_open honest refused same. told_nothing (λ (tunes : List Tune). count_line (length tunes)) c.args.conditions.now (k.state c.args.store.now) refused.0
    ∙ ap Err (sym refused.1)) (search rules)

pub returns-in_err-count_line : goal.returns-in_err-count_line
returns-in_err-count_line g c =
    let k = g.S.TuneStore in
    call_no_memory k _ _ _ _ (goes_on k _ _ _ _ _ (goes_none k c.args.store.now) c.in_ok-numbers.ensures) (search rules)

pub returns : goal.returns
returns g c =
    let k = g.S.TuneStore in
    let start = goes_none k c.args.store.now in
    call_ok k _ _ _ _ (goes_on k _ _ _ _ _ start c.in_ok-numbers.ensures)
    (λ is_open honest same.
    let state = k.state c.args.store.now in
    let are = good_of k _ _ _ _ _ start c.in_ok-numbers.ensures is_open honest in
    let long = ap length (are.are same) ∙ length-map (found_by_all c.args.conditions.now state) (λ (tune : Tune). tune.number) in
    told_found (λ (tunes : List Tune). count_line (length tunes)) c.args.conditions.now state are.asks
    ∙ ap Ok (ap count_line (sym long) ∙ ap count_line (search rules) ∙ sym c.in_ok-count_line.ensures))
