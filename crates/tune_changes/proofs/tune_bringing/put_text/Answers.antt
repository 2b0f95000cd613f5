use Rattle.std.proofs.Common.{◌+◌, ◌∷◌, List, ℕ, Option, Some, None, refl, rules, sym, ap, ◌∙◌}
use Rattle.tune_store.specs.State.{State, greatest}
use Rattle.tune_store.specs.declared.tune.Tune.{Tune}
use Rattle.tune_store.specs.declared.command.Command.TheVariants.{Import}
use Rattle.tune_asking.proofs.CallLemmas.{goes_none, good_of}
use Rattle.tune_changes.specs.Bringing.{book_with, renumber_commands, tune_commands}
use Rattle.tune_changes.proofs.CarryLemmas.{partly_none, partly_asked, carries_asked_err, carries_last}
use Rattle.tune_changes.proofs.LookLemmas.{never_refused, same_told}
use Rattle.tune_changes.proofs.tune_bringing.put_text.Goals as goal

pub returns-in_err-tune_if_any : goal.returns-in_err-tune_if_any
returns-in_err-tune_if_any g c =
    carries_asked_err g.S.TuneStore _ _ _ _ _ _ _ _ (partly_none g.S.TuneStore _ _ _ (λ is_open h. refl)) c.in_err-tune_if_any.ensures
    (λ is_open h refused. never_refused _ _ refused) (search rules)

pub returns-in-None : goal.returns-in-None
returns-in-None g c =
    let k = g.S.TuneStore in
    let last = greatest (k.state c.args.store.now).tunes in
    carries_last k _ _ _ _ _ _ _ (partly_asked k _ _ _ _ _ _ _ (partly_none k _ _ _ (λ is_open h. refl)) c.in_ok-tune_if_any.ensures)
    c.take_in.ensures
    (λ is_open h. ap (λ (there : Option Tune). tune_commands last c.args.number there (Some c.args.text.now))
    (same_told _ _ (good_of k _ _ _ _ _ (goes_none k _) c.in_ok-tune_if_any.ensures is_open h) ∙ c.in-None.is)
    ∙ ap (λ (state : State). Import (book_with c.args.number c.args.text.now) ∷ renumber_commands (greatest state.tunes + 1) c.args.number)
    (sym (c.in_ok-tune_if_any.ensures.asked.same_state h)))

pub returns-in-Some : goal.returns-in-Some
returns-in-Some g c =
    let k = g.S.TuneStore in
    let last = greatest (k.state c.args.store.now).tunes in
    carries_last k _ _ _ _ _ _ _ (partly_asked k _ _ _ _ _ _ _ (partly_none k _ _ _ (λ is_open h. refl)) c.in_ok-tune_if_any.ensures)
    c.replace.ensures
    (λ is_open h. ap (λ (there : Option Tune). tune_commands last c.args.number there (Some c.args.text.now))
    (same_told _ _ (good_of k _ _ _ _ _ (goes_none k _) c.in_ok-tune_if_any.ensures is_open h) ∙ c.in-Some.is))
