use Rattle.std.proofs.Common.{◌≡◌, ◌≤◌, ◌<◌, ◌++◌, [], ◌∷◌, Ok, Err, true, false, map, take, drop, length, rules, refl, sym, ap, ◌∙◌, subst, arith, append-nil}
use Rattle.std.proofs.Common.{append_assoc, codes}
use Rattle.tune_asking.proofs.CallLemmas.{goes_none, goes_on, good_of, call_ok, call_err, call_no_memory, call_refused, call_refused_by, call_same}
use Rattle.desk_questions.proofs.RowLemmas.{rows_begin, rows_more, rows_all, refused_at}
use Rattle.desk_questions.proofs.told_answers.rows_at.Goals as goal

pub returns-in_err-rows : goal.returns-in_err-rows
returns-in_err-rows g c = let k = g.S.TuneStore in call_no_memory k _ _ _ _ (goes_none k c.args.store.now) (search rules)

pub loop-number-init : goal.loop-number-init
loop-number-init g c = record {
  goes = goes_none g.S.TuneStore _;
  rows = λ is_open honest. rows_begin _ _ (search rules);
}

pub returns-in_err-tune : goal.returns-in_err-tune
returns-in_err-tune g c =
    let k = g.S.TuneStore in
    call_err k _ _ _ _ _ _ _ c.loop-number.invariant.goes c.in_err-tune.ensures
    (λ is_open honest refused.
    let was = c.loop-number.invariant.rows is_open (c.in_err-tune.ensures.asked.was_honest honest) in
    refused_at c.args.numbers.now c.loop-number.number-index _ (k.state c.args.store.now) was.tunes _ (omega arith) refl was.at refused) (search rules)

pub returns-in_err-row_of : goal.returns-in_err-row_of
returns-in_err-row_of g c =
    let k = g.S.TuneStore in call_no_memory k _ _ _ _ (goes_on k _ _ _ _ _ c.loop-number.invariant.goes c.in_ok-tune.ensures) (search rules)

pub returns-in_err-push : goal.returns-in_err-push
returns-in_err-push g c =
    let k = g.S.TuneStore in call_no_memory k _ _ _ _ (goes_on k _ _ _ _ _ c.loop-number.invariant.goes c.in_ok-tune.ensures) (search rules)

pub loop-number-preserved : goal.loop-number-preserved
loop-number-preserved g c =
    let k = g.S.TuneStore in
    let was = c.loop-number.invariant in
    record {
      goes = goes_on k _ _ _ _ _ was.goes c.in_ok-tune.ensures;
      rows = λ is_open honest. rows_more c.args.numbers.now c.loop-number.number-index _ _ _ _ _ _ (omega arith) refl
          (was.rows is_open (c.in_ok-tune.ensures.asked.was_honest honest))
          (good_of k _ _ _ _ _ was.goes c.in_ok-tune.ensures is_open honest) c.in_ok-row_of.ensures (search rules);
    }

pub returns : goal.returns
returns g c =
    let k = g.S.TuneStore in
    call_ok k _ _ _ _ c.loop-number.invariant.goes
    (λ is_open honest. rows_all c.args.numbers.now c.loop-number.number-index _ _ (omega arith) (c.loop-number.invariant.rows is_open honest))
