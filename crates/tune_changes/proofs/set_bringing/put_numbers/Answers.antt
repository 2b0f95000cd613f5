use Rattle.std.proofs.Common.{[], ◌∷◌, List, ℕ, Option, Some, map, rules, refl, sym, ap, ◌∙◌}
use Rattle.tune_asking.proofs.CallLemmas.{goes_none, good_of}
use Rattle.tune_changes.specs.Bringing.{relaid, set_commands}
use Rattle.tune_changes.proofs.CarryLemmas.{partly_none, partly_asked, carries_asked_err, carries_last}
use Rattle.tune_changes.proofs.LookLemmas.{never_refused, same_told}
use Rattle.tune_changes.proofs.set_bringing.put_numbers.Goals as goal

pub returns-in_err-numbers_if_any : goal.returns-in_err-numbers_if_any
returns-in_err-numbers_if_any g c =
    carries_asked_err g.S.TuneStore _ _ _ _ _ _ _ _ (partly_none g.S.TuneStore _ _ _ (λ is_open h. refl)) c.in_err-numbers_if_any.ensures
    (λ is_open h refused. never_refused _ _ refused) (search rules)

pub returns-in-None : goal.returns-in-None
returns-in-None g c =
    let k = g.S.TuneStore in
    carries_last k _ _ _ _ _ _ _ (partly_asked k _ _ _ _ _ _ _ (partly_none k _ _ _ (λ is_open h. refl)) c.in_ok-numbers_if_any.ensures)
    c.make_set.ensures
    (λ is_open h. ap (λ (old : Option (List ℕ)). set_commands c.args.name.now old (Some c.args.numbers.now))
    (same_told _ _ (good_of k _ _ _ _ _ (goes_none k _) c.in_ok-numbers_if_any.ensures is_open h) ∙ c.in-None.is))

pub returns-in-Some : goal.returns-in-Some
returns-in-Some g c =
    let k = g.S.TuneStore in
    carries_last k _ _ _ _ _ _ _ (partly_asked k _ _ _ _ _ _ _ (partly_none k _ _ _ (λ is_open h. refl)) c.in_ok-numbers_if_any.ensures)
    c.lay_anew.ensures
    (λ is_open h. ap (λ (old : Option (List ℕ)). set_commands c.args.name.now old (Some c.args.numbers.now))
    (same_told _ _ (good_of k _ _ _ _ _ (goes_none k _) c.in_ok-numbers_if_any.ensures is_open h) ∙ c.in-Some.is)
    ∙ ap (λ (old : List ℕ). relaid c.args.name.now old c.args.numbers.now) (sym c.as_slice.ensures))
