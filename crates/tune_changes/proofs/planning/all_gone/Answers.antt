use Rattle.std.proofs.Common.{◌≡◌, ◌+◌, [], ◌∷◌, ◌++◌, List, Ok, Result, take, drop, refl, sym, ap, ◌∙◌, arith, rules, append-nil}
use Rattle.tune_store.specs.declared.command.Refusal.{Refusal}
use Rattle.tune_asking.proofs.CallLemmas.{goes_none, goes_on, good_of, call_ok, call_err, call_no_memory}
use Rattle.tune_changes.specs.Inside.TurnPlans.{all_gone}
use Rattle.tune_changes.specs.Planning.{turn_with_more}
use Rattle.tune_changes.specs.declared.turns.Turn.{Turn}
use Rattle.tune_changes.proofs.PlanLemmas.{before, before_none, before_more, gone_next, gone_end}
use Rattle.tune_changes.proofs.planning.all_gone.Goals as goal

pub loop-place-init : goal.loop-place-init
loop-place-init g c = record {
  goes = goes_none g.S.TuneStore _;
  planned = λ is_open h.
      let plan = all_gone [] c.args.held.now c.args.numbers.now (g.S.TuneStore.state c.args.store.now) in
      before_none plan ∙ ap (λ (done : List Turn). before done plan) (sym c.in_ok-turns.ensures.items);
}

pub loop-place-preserved : goal.loop-place-preserved
loop-place-preserved g c =
    let k = g.S.TuneStore in
    let was = c.loop-place.invariant in
    let state = k.state c.args.store.now in
    let numbers = c.args.numbers.now in
    let held = c.args.held.now in
    let i = c.loop-place.place in
    let turns = c.loop-place.turns.items in
    let turn = c.in_ok-gone_at.field-0 in
    let rest = all_gone (take (i + 1) numbers) (drop (i + 1) held) (drop (i + 1) numbers) state in
    record {
      goes = goes_on k _ _ _ _ _ was.goes c.in_ok-gone_at.ensures;
      planned = λ is_open h.
          was.planned is_open (c.in_ok-gone_at.ensures.asked.was_honest h)
          ∙ ap (before turns) (gone_next numbers held i state (omega arith) c.requires
          ∙ ap (λ (its : Result Turn Refusal). turn_with_more its rest) (good_of k _ _ _ _ _ was.goes c.in_ok-gone_at.ensures is_open h))
          ∙ before_more turns turn rest ∙ ap (λ (done : List Turn). before done rest) (sym c.in_ok-push.ensures.items);
    }

pub returns-in_err-gone_at : goal.returns-in_err-gone_at
returns-in_err-gone_at g c =
    let k = g.S.TuneStore in
    let was = c.loop-place.invariant in
    let state = k.state c.args.store.now in
    let numbers = c.args.numbers.now in
    let held = c.args.held.now in
    let i = c.loop-place.place in
    let rest = all_gone (take (i + 1) numbers) (drop (i + 1) held) (drop (i + 1) numbers) state in
    call_err k _ _ _ _ _ _ _ was.goes c.in_err-gone_at.ensures
    (λ is_open h refused. was.planned is_open (c.in_err-gone_at.ensures.asked.was_honest h)
    ∙ ap (before c.loop-place.turns.items) (gone_next numbers held i state (omega arith) c.requires
    ∙ ap (λ (its : Result Turn Refusal). turn_with_more its rest) refused)) (search rules)

pub returns-in_err-push : goal.returns-in_err-push
returns-in_err-push g c =
    let k = g.S.TuneStore in call_no_memory k _ _ _ _ (goes_on k _ _ _ _ _ c.loop-place.invariant.goes c.in_ok-gone_at.ensures) (search rules)

pub returns : goal.returns
returns g c =
    let k = g.S.TuneStore in
    let was = c.loop-place.invariant in
    let state = k.state c.args.store.now in
    let turns = c.loop-place.turns.items in
    call_ok k _ _ _ _ was.goes
    (λ is_open h. was.planned is_open h
    ∙ ap (before turns) (gone_end c.args.numbers.now c.args.held.now c.loop-place.place state (omega arith)) ∙ ap Ok (append-nil turns))
