use Rattle.std.proofs.Common.{ap, sym, ◌∙◌, rules}
use Rattle.tune_store.specs.State.{tune_at}
use Rattle.tune_asking.proofs.CallLemmas.{goes_none, goes_on, good_of, call_ok, call_err, call_no_memory}
use Rattle.tune_changes.proofs.PlanLemmas.{tune_found}
use Rattle.desk_changes.specs.ReplacedTunes.{replaced_line}
use Rattle.desk_changes.proofs.ReplacingLemmas.{unknown_planned}
use Rattle.desk_changes.proofs.replacing.told_turns.Goals as goal

pub returns-in_err-tune : goal.returns-in_err-tune
returns-in_err-tune g c =
    let k = g.S.TuneStore in
    let what = c.args.what in
    call_err k _ _ _ _ _ _ _ (goes_none k c.args.store.now) c.in_err-tune.ensures
    (λ is_open honest refused. unknown_planned what.number what.revision what.text (k.state c.args.store.now) _ refused) (search rules)

pub returns-in_err-line : goal.returns-in_err-line
returns-in_err-line g c =
    let k = g.S.TuneStore in
    call_no_memory k _ _ _ _ (goes_on k _ _ _ _ _ (goes_none k c.args.store.now) c.in_ok-tune.ensures) (search rules)

pub returns-in_err-turns : goal.returns-in_err-turns
returns-in_err-turns g c =
    let k = g.S.TuneStore in
    call_err k _ _ _ _ _ _ _ (goes_on k _ _ _ _ _ (goes_none k c.args.store.now) c.in_ok-tune.ensures) c.in_err-turns.ensures
    (λ is_open honest refused. refused) (search rules)

pub returns : goal.returns
returns g c =
    let k = g.S.TuneStore in
    let what = c.args.what in
    let start = goes_none k c.args.store.now in
    let one = goes_on k _ _ _ _ _ start c.in_ok-tune.ensures in
    let there = tune_at what.number (k.state c.args.store.now).tunes in
    call_ok k _ _ _ _ (goes_on k _ _ _ _ _ one c.in_ok-turns.ensures) (λ is_open honest. record {
      planned = good_of k _ _ _ _ _ one c.in_ok-turns.ensures is_open honest;
      told = c.in_ok-line.ensures ∙ ap (replaced_line what) (sym (tune_found what.number there c.in_ok-tune.tune
          (good_of k _ _ _ _ _ start c.in_ok-tune.ensures is_open (c.in_ok-turns.ensures.asked.was_honest honest))));
    })
