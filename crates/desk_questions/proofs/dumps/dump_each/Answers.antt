use Rattle.std.proofs.Common.{rules, sym, ap, arith, append-nil}
use Rattle.tune_sets.specs.declared.set_rows.SetRow.{SetRow}
use Rattle.tune_asking.proofs.CallLemmas.{goes_none, goes_on, good_of, call_ok, call_err}
use Rattle.desk_questions.proofs.DumpLemmas.{sets_more, sets_all, set_there}
use Rattle.desk_questions.proofs.dumps.dump_each.Goals as goal

pub loop-set-init : goal.loop-set-init
loop-set-init g c = record {
  goes = goes_none g.S.TuneStore _;
  written = λ is_open honest are. sym (append-nil _);
}

pub returns-in_err-dump_set : goal.returns-in_err-dump_set
returns-in_err-dump_set g c =
    let k = g.S.TuneStore in
    call_err k _ _ _ _ _ _ _ c.loop-set.invariant.goes c.in_err-dump_set.ensures
    (λ is_open honest refused are. set_there (k.state c.args.store.now).sets c.loop-set.set-index c.args.sets.now _ c.set-item.result (omega arith) are
    (ap (λ (row : SetRow). row.name) c.set-item.is) refused)
    (search rules)

pub loop-set-preserved : goal.loop-set-preserved
loop-set-preserved g c =
    let k = g.S.TuneStore in
    let was = c.loop-set.invariant in
    record {
      goes = goes_on k _ _ _ _ _ was.goes c.in_ok-dump_set.ensures;
      written = λ is_open honest are. sets_more (k.state c.args.store.now).sets c.loop-set.set-index c.args.sets.now _ c.set-item.result _ _ _ (omega arith) are
          (ap (λ (row : SetRow). row.name) c.set-item.is)
          (was.written is_open (c.in_ok-dump_set.ensures.asked.was_honest honest) are)
          (good_of k _ _ _ _ _ was.goes c.in_ok-dump_set.ensures is_open honest);
    }

pub returns : goal.returns
returns g c =
    let k = g.S.TuneStore in
    call_ok k _ _ _ _ c.loop-set.invariant.goes
    (λ is_open honest are. sets_all (k.state c.args.store.now).sets c.loop-set.set-index c.args.sets.now _ _ (omega arith) are
    (c.loop-set.invariant.written is_open honest are))
