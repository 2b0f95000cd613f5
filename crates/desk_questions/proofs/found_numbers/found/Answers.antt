use Rattle.std.proofs.Common.{◌≡◌, ◌≤◌, ◌<◌, ◌++◌, [], ◌∷◌, Ok, Err, true, false, map, take, drop, length, rules, refl, sym, ap, ◌∙◌, subst, arith, append-nil}
use Rattle.std.proofs.Common.{append_assoc, codes, inl, inr}
use Rattle.tune_asking.proofs.CallLemmas.{goes_none, goes_on, good_of, call_ok, call_err, call_no_memory, call_refused, call_refused_by, call_same}
use Rattle.desk_questions.proofs.FoundLemmas.{found_by_none, found_by_next, nothing_among}
use Rattle.desk_questions.proofs.RowLemmas.{found_all}
use Rattle.desk_questions.proofs.found_numbers.found.Goals as goal

pub returns-in_err-numbers : goal.returns-in_err-numbers
returns-in_err-numbers g c = let k = g.S.TuneStore in call_no_memory k _ _ _ _ (goes_none k c.args.store.now) (search rules)

pub loop-condition-init : goal.loop-condition-init
loop-condition-init g c = record {
  goes = goes_none g.S.TuneStore _;
  found = λ is_open honest. found_by_none _ _ _ c.all_numbers.ensures.rise c.in_ok-numbers.ensures.all;
}

pub returns-in_err-given : goal.returns-in_err-given
returns-in_err-given g c =
    let k = g.S.TuneStore in
    call_err k _ _ _ _ _ _ _ c.loop-condition.invariant.goes c.in_err-given.ensures
    (λ is_open honest refused.
    (nothing_among c.args.conditions.now c.loop-condition.condition-index c.condition-item.result (omega arith) c.condition-item.is refused.0, refused.1))
    (search rules)

pub returns-in_err-both : goal.returns-in_err-both
returns-in_err-both g c =
    let k = g.S.TuneStore in call_no_memory k _ _ _ _ (goes_on k _ _ _ _ _ c.loop-condition.invariant.goes c.in_ok-given.ensures) (search rules)

pub loop-condition-preserved : goal.loop-condition-preserved
loop-condition-preserved g c =
    let k = g.S.TuneStore in
    let was = c.loop-condition.invariant in
    record {
      goes = goes_on k _ _ _ _ _ was.goes c.in_ok-given.ensures;
      found = λ is_open honest. found_by_next c.args.conditions.now c.loop-condition.condition-index c.condition-item.result _ _ _ _ _
          (omega arith) c.condition-item.is
          (was.found is_open (c.in_ok-given.ensures.asked.was_honest honest))
          (good_of k _ _ _ _ _ was.goes c.in_ok-given.ensures is_open honest) (search rules);
    }

pub returns : goal.returns
returns g c =
    let k = g.S.TuneStore in
    call_ok k _ _ _ _ c.loop-condition.invariant.goes
    (λ is_open honest. found_all c.args.conditions.now c.loop-condition.condition-index _ _ _ (omega arith) (c.loop-condition.invariant.found is_open honest))
