use Rattle.std.proofs.Common.{List, ℕ, Option, None, refl, rules, ap, ◌∙◌}
use Rattle.tune_asking.proofs.CallLemmas.{goes_none, good_of}
use Rattle.tune_changes.specs.Bringing.{set_commands}
use Rattle.tune_changes.proofs.CarryLemmas.{partly_none, partly_asked, carries_asked_err, carries_done, carries_last}
use Rattle.tune_changes.proofs.BringingLemmas.{drops_none, drops_some}
use Rattle.tune_changes.proofs.LookLemmas.{never_refused, same_told}
use Rattle.tune_changes.proofs.set_bringing.take_set.Goals as goal

pub returns-in_err-numbers_if_any : goal.returns-in_err-numbers_if_any
returns-in_err-numbers_if_any g c =
    carries_asked_err g.S.TuneStore _ _ _ _ _ _ _ _ (partly_none g.S.TuneStore _ _ _ (λ is_open h. refl)) c.in_err-numbers_if_any.ensures
    (λ is_open h refused. never_refused _ _ refused) (search rules)

pub returns-then-is_none : goal.returns-then-is_none
returns-then-is_none g c =
    let k = g.S.TuneStore in
    carries_done k _ _ _ _ _ _ (partly_asked k _ _ _ _ _ _ _ (partly_none k _ _ _ (λ is_open h. refl)) c.in_ok-numbers_if_any.ensures)
    (λ is_open h. ap (λ (old : Option (List ℕ)). set_commands c.args.name.now old None)
    (same_told _ _ (good_of k _ _ _ _ _ (goes_none k _) c.in_ok-numbers_if_any.ensures is_open h))
    ∙ drops_none c.args.name.now c.in_ok-numbers_if_any.field-0 c.if-is_none.ensures) refl

pub returns : goal.returns
returns g c =
    let k = g.S.TuneStore in
    carries_last k _ _ _ _ _ _ _ (partly_asked k _ _ _ _ _ _ _ (partly_none k _ _ _ (λ is_open h. refl)) c.in_ok-numbers_if_any.ensures)
    c.drop_set.ensures
    (λ is_open h. ap (λ (old : Option (List ℕ)). set_commands c.args.name.now old None)
    (same_told _ _ (good_of k _ _ _ _ _ (goes_none k _) c.in_ok-numbers_if_any.ensures is_open h))
    ∙ drops_some c.args.name.now c.in_ok-numbers_if_any.field-0 c.if-is_none.ensures)
