use Rattle.std.proofs.Common.{Ok, rules, sym, ap, ◌∙◌}
use Rattle.desk_lists.specs.Twins.{twin_list_bytes}
use Rattle.tune_asking.proofs.CallLemmas.{goes_none, goes_on, good_of, call_ok, call_err, call_no_memory}
use Rattle.desk_questions.proofs.TwinLemmas.{all_at, all_twins, never_unknown}
use Rattle.desk_questions.proofs.told_twins.twins.Goals as goal

pub returns-in_err-numbers : goal.returns-in_err-numbers
returns-in_err-numbers g c = let k = g.S.TuneStore in call_no_memory k _ _ _ _ (goes_none k c.args.store.now) (search rules)

pub returns-in_err-rows : goal.returns-in_err-rows
returns-in_err-rows g c =
    let k = g.S.TuneStore in
    call_err k _ _ _ _ _ _ _ (goes_none k _) c.in_err-rows.ensures
    (λ is_open honest refused same. absurd (never_unknown (k.state c.args.store.now) _ _
    (all_at _ (k.state c.args.store.now) _ c.all_numbers.ensures.rise c.in_ok-numbers.ensures.all same) (rw c.as_slice.ensures.value at refused)))
    (search rules)

pub returns-in_err-twin_list : goal.returns-in_err-twin_list
returns-in_err-twin_list g c =
    let k = g.S.TuneStore in call_no_memory k _ _ _ _ (goes_on k _ _ _ _ _ (goes_none k c.args.store.now) c.in_ok-rows.ensures) (search rules)

pub returns : goal.returns
returns g c =
    let k = g.S.TuneStore in
    let start = goes_none k c.args.store.now in
    call_ok k _ _ _ _ (goes_on k _ _ _ _ _ start c.in_ok-rows.ensures)
    (λ is_open honest same.
    let state = k.state c.args.store.now in
    let rows = good_of k _ _ _ _ _ start c.in_ok-rows.ensures is_open honest in
    let all = all_at _ state _ c.all_numbers.ensures.rise c.in_ok-numbers.ensures.all same in
    ap Ok (ap (twin_list_bytes c.args.form) (sym (all_twins state _ _ all (rw c.as_slice.ensures.value at rows))) ∙ search rules))
