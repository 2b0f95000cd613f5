use Rattle.std.proofs.Common.{Option, None, refl, rules, ap, ◌∙◌}
use Rattle.tune_store.specs.State.{greatest}
use Rattle.tune_store.specs.declared.tune.Tune.{Tune}
use Rattle.tune_asking.proofs.CallLemmas.{goes_none, good_of}
use Rattle.tune_changes.specs.Bringing.{tune_commands}
use Rattle.tune_changes.proofs.CarryLemmas.{partly_none, partly_asked, carries_asked_err, carries_done, carries_last}
use Rattle.tune_changes.proofs.BringingLemmas.{deletes_none, deletes_some}
use Rattle.tune_changes.proofs.LookLemmas.{never_refused, same_told}
use Rattle.tune_changes.proofs.tune_bringing.take_tune.Goals as goal

pub returns-in_err-tune_if_any : goal.returns-in_err-tune_if_any
returns-in_err-tune_if_any g c =
    carries_asked_err g.S.TuneStore _ _ _ _ _ _ _ _ (partly_none g.S.TuneStore _ _ _ (λ is_open h. refl)) c.in_err-tune_if_any.ensures
    (λ is_open h refused. never_refused _ _ refused) (search rules)

pub returns-then-is_none : goal.returns-then-is_none
returns-then-is_none g c =
    let k = g.S.TuneStore in
    let last = greatest (k.state c.args.store.now).tunes in
    carries_done k _ _ _ _ _ _ (partly_asked k _ _ _ _ _ _ _ (partly_none k _ _ _ (λ is_open h. refl)) c.in_ok-tune_if_any.ensures)
    (λ is_open h. ap (λ (there : Option Tune). tune_commands last c.args.number there None)
    (same_told _ _ (good_of k _ _ _ _ _ (goes_none k _) c.in_ok-tune_if_any.ensures is_open h))
    ∙ deletes_none last c.args.number c.in_ok-tune_if_any.field-0 c.if-is_none.ensures) refl

pub returns : goal.returns
returns g c =
    let k = g.S.TuneStore in
    let last = greatest (k.state c.args.store.now).tunes in
    carries_last k _ _ _ _ _ _ _ (partly_asked k _ _ _ _ _ _ _ (partly_none k _ _ _ (λ is_open h. refl)) c.in_ok-tune_if_any.ensures)
    c.delete.ensures
    (λ is_open h. ap (λ (there : Option Tune). tune_commands last c.args.number there None)
    (same_told _ _ (good_of k _ _ _ _ _ (goes_none k _) c.in_ok-tune_if_any.ensures is_open h))
    ∙ deletes_some last c.args.number c.in_ok-tune_if_any.field-0 c.if-is_none.ensures)
