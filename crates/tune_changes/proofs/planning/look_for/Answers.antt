use Rattle.std.proofs.Common.{◌≡◌, get_or, refl, sym, ap, ◌∙◌, arith, rules}
use Rattle.std.proofs.lemmas.List.{drop_all}
use Rattle.tune_asking.proofs.CallLemmas.{goes_none, goes_on, good_of, call_ok, call_err}
use Rattle.tune_changes.specs.Planning.{first_unknown}
use Rattle.tune_changes.proofs.PlanLemmas.{known_next, unknown_here}
use Rattle.tune_changes.proofs.planning.look_for.Goals as goal

pub loop-number-init : goal.loop-number-init
loop-number-init g c = record { goes = goes_none g.S.TuneStore _; known = λ is_open h. refl }

pub loop-number-preserved : goal.loop-number-preserved
loop-number-preserved g c =
    let k = g.S.TuneStore in
    let was = c.loop-number.invariant in
    record {
      goes = goes_on k _ _ _ _ _ was.goes c.in_ok-tune_of.ensures;
      known = λ is_open h. was.known is_open (c.in_ok-tune_of.ensures.asked.was_honest h)
          ∙ known_next c.args.numbers.now c.loop-number.number-index (k.state c.args.store.now) _ (omega arith)
          (good_of k _ _ _ _ _ was.goes c.in_ok-tune_of.ensures is_open h);
    }

pub returns-in_err-tune_of : goal.returns-in_err-tune_of
returns-in_err-tune_of g c =
    let k = g.S.TuneStore in
    let was = c.loop-number.invariant in
    call_err k _ _ _ _ _ _ _ was.goes c.in_err-tune_of.ensures
    (λ is_open h refused.
    let here = unknown_here c.args.numbers.now c.loop-number.number-index (k.state c.args.store.now) _ (omega arith) refused in
    (get_or c.args.numbers.now c.loop-number.number-index 0, was.known is_open (c.in_err-tune_of.ensures.asked.was_honest h) ∙ here.0, here.1))
    (search rules)

pub returns : goal.returns
returns g c =
    let k = g.S.TuneStore in
    call_ok k _ _ _ _ c.loop-number.invariant.goes
    (λ is_open h. c.loop-number.invariant.known is_open h
    ∙ ap (λ left. first_unknown left (k.state c.args.store.now).tunes) (drop_all c.loop-number.number-index c.args.numbers.now (omega arith)))
