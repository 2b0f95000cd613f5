use Rattle.std.proofs.Common.{rules, refl, arith}
use Rattle.tune_asking.proofs.CallLemmas.{goes_none, goes_on, good_of, call_ok, call_err, call_no_memory}
use Rattle.desk_questions.proofs.RowLemmas.{refused_at}
use Rattle.desk_questions.proofs.DumpLemmas.{begun_none, begun_more, begun_all}
use Rattle.desk_questions.proofs.dumps.dump_tunes.Goals as goal

pub loop-number-init : goal.loop-number-init
loop-number-init g c = record {
  goes = goes_none g.S.TuneStore _;
  begun = λ is_open honest. begun_none _ _ _ (search rules);
}

pub returns-in_err-tune : goal.returns-in_err-tune
returns-in_err-tune g c =
    let k = g.S.TuneStore in
    call_err k _ _ _ _ _ _ _ c.loop-number.invariant.goes c.in_err-tune.ensures
    (λ is_open honest refused.
    let was = c.loop-number.invariant.begun is_open (c.in_err-tune.ensures.asked.was_honest honest) in
    refused_at c.args.numbers.now c.loop-number.number-index _ (k.state c.args.store.now) was.tunes _ (omega arith) refl was.at refused) (search rules)

pub returns-in_err-put_tune : goal.returns-in_err-put_tune
returns-in_err-put_tune g c =
    let k = g.S.TuneStore in call_no_memory k _ _ _ _ (goes_on k _ _ _ _ _ c.loop-number.invariant.goes c.in_ok-tune.ensures) (search rules)

pub loop-number-preserved : goal.loop-number-preserved
loop-number-preserved g c =
    let k = g.S.TuneStore in
    let was = c.loop-number.invariant in
    record {
      goes = goes_on k _ _ _ _ _ was.goes c.in_ok-tune.ensures;
      begun = λ is_open honest. begun_more c.args.numbers.now c.loop-number.number-index _ _ _ _ _ _ _ _ _ (omega arith) refl
          (was.begun is_open (c.in_ok-tune.ensures.asked.was_honest honest))
          (good_of k _ _ _ _ _ was.goes c.in_ok-tune.ensures is_open honest) c.in_ok-put_tune.ensures;
    }

pub returns-in_err-put_piece : goal.returns-in_err-put_piece
returns-in_err-put_piece g c = let k = g.S.TuneStore in call_no_memory k _ _ _ _ c.loop-number.invariant.goes (search rules)

pub returns : goal.returns
returns g c =
    let k = g.S.TuneStore in
    call_ok k _ _ _ _ c.loop-number.invariant.goes
    (λ is_open honest. begun_all c.args.numbers.now c.loop-number.number-index _ _ _ _ _ _ (omega arith)
    (c.loop-number.invariant.begun is_open honest) c.in_ok-put_piece.ensures.written)
