use Rattle.std.proofs.Common.{rules, refl, arith}
use Rattle.tune_asking.proofs.CallLemmas.{goes_none, goes_on, good_of, call_ok, call_err, call_no_memory}
use Rattle.desk_books.proofs.KnownLemmas.{knows_next, knows_all}
use Rattle.desk_books.proofs.asked_texts.put_texts.Goals as goal

pub loop-number-init : goal.loop-number-init
loop-number-init g c = record { goes = goes_none g.S.TuneStore _; knows = λ is_open honest. refl }

pub returns-in_err-tune : goal.returns-in_err-tune
returns-in_err-tune g c =
    call_err g.S.TuneStore _ _ _ _ _ _ _ c.loop-number.invariant.goes c.in_err-tune.ensures (λ is_open honest refused. tt) (search rules)

pub returns-in_err-insert : goal.returns-in_err-insert
returns-in_err-insert g c =
    let k = g.S.TuneStore in call_no_memory k _ _ _ _ (goes_on k _ _ _ _ _ c.loop-number.invariant.goes c.in_ok-tune.ensures) (search rules)

pub loop-number-preserved : goal.loop-number-preserved
loop-number-preserved g c =
    let k = g.S.TuneStore in
    let was = c.loop-number.invariant in
    record {
      goes = goes_on k _ _ _ _ _ was.goes c.in_ok-tune.ensures;
      knows = λ is_open honest. knows_next c.args.numbers.now c.loop-number.number-index _ _ _ _ _ _ _ (omega arith) refl c.bytes.ensures.value
          c.in_ok-insert.ensures.known
          (was.knows is_open (c.in_ok-tune.ensures.asked.was_honest honest)) (good_of k _ _ _ _ _ was.goes c.in_ok-tune.ensures is_open honest);
    }

pub returns : goal.returns
returns g c =
    call_ok g.S.TuneStore _ _ _ _ c.loop-number.invariant.goes
    (λ is_open honest. knows_all c.args.numbers.now c.loop-number.number-index _ _ _ (omega arith) (c.loop-number.invariant.knows is_open honest))
