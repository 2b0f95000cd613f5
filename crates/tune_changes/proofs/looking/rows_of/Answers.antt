use Rattle.std.proofs.Common.{rules, refl, ◌∙◌}
use Rattle.tune_asking.proofs.CallLemmas.{goes_none, goes_on, good_of, call_ok, call_err, call_no_memory, call_refused}
use Rattle.tune_changes.proofs.LookLemmas.{show_is, show_other, show_refused}
use Rattle.tune_changes.proofs.looking.rows_of.Goals as goal

pub ask-requires : goal.ask-requires
ask-requires g c = refl

pub returns-in_err-name : goal.returns-in_err-name
returns-in_err-name g c = let k = g.S.TuneStore in call_no_memory k _ _ _ _ (goes_none k c.args.store.now) (search rules)

pub returns-in_err-rows : goal.returns-in_err-rows
returns-in_err-rows g c =
    let k = g.S.TuneStore in
    call_err k _ _ _ _ _ _ _ (goes_none k _) c.in_err-rows.ensures
    (λ is_open honest refused. show_refused c.args.name.now _ (k.state c.args.store.now) _ (c.in_ok-name.ensures ∙ c.as_slice.ensures.value) refused)
    (search rules)

pub returns-in-SetShown : goal.returns-in-SetShown
returns-in-SetShown g c =
    let k = g.S.TuneStore in
    let start = goes_none k c.args.store.now in
    call_ok k _ _ _ _ (goes_on k _ _ _ _ _ start c.in_ok-rows.ensures)
    (λ is_open honest. show_is c.args.name.now _ _ (k.state c.args.store.now) _ _ (c.in_ok-name.ensures ∙ c.as_slice.ensures.value)
    (good_of k _ _ _ _ _ start c.in_ok-rows.ensures is_open honest) c.in-SetShown.is)

pub returns : goal.returns
returns g c =
    let k = g.S.TuneStore in
    let start = goes_none k c.args.store.now in
    call_refused k _ _ _ _ (goes_on k _ _ _ _ _ start c.in_ok-rows.ensures)
    (λ is_open honest. absurd (show_other _ (k.state c.args.store.now) _ (good_of k _ _ _ _ _ start c.in_ok-rows.ensures is_open honest)
    (λ shown rows is. c.in_default.not-SetShown shown rows is)))
