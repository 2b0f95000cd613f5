use Rattle.std.proofs.Common.{◌≡◌, rules, refl, sym, ap, ◌∙◌}
use Rattle.tune_store.specs.State.{tune_at}
use Rattle.tune_asking.proofs.CallLemmas.{goes_none, goes_on, good_of, call_ok, call_err, call_refused}
use Rattle.tune_asking.proofs.LookLemmas.{shown_is, shown_ok, shown_refused}
use Rattle.tune_asking.proofs.store_questions.tune_of.Goals as goal

pub ask-requires : goal.ask-requires
ask-requires g c = refl

pub returns-in_err-tune : goal.returns-in_err-tune
returns-in_err-tune g c =
    let k = g.S.TuneStore in
    call_err k _ _ _ _ _ _ _ (goes_none k _) c.in_err-tune.ensures
    (λ is_open honest refused. shown_refused c.args.number (tune_at c.args.number (k.state c.args.store.now).tunes) _ refused) (search rules)

pub returns-in-Shown : goal.returns-in-Shown
returns-in-Shown g c =
    let k = g.S.TuneStore in
    let start = goes_none k c.args.store.now in
    call_ok k _ _ _ _ (goes_on k _ _ _ _ _ start c.in_ok-tune.ensures)
    (λ is_open honest. shown_is c.args.number (k.state c.args.store.now) _ _ (good_of k _ _ _ _ _ start c.in_ok-tune.ensures is_open honest) c.in-Shown.is)

pub returns : goal.returns
returns g c =
    let k = g.S.TuneStore in
    let start = goes_none k c.args.store.now in
    call_refused k _ _ _ _ (goes_on k _ _ _ _ _ start c.in_ok-tune.ensures)
    (λ is_open honest. let h = shown_ok c.args.number _ _ (good_of k _ _ _ _ _ start c.in_ok-tune.ensures is_open honest) in
    absurd (c.in_default.not-Shown (h.0) (h.1)))
