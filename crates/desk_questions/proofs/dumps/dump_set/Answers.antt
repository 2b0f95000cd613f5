use Rattle.std.proofs.Common.{rules}
use Rattle.tune_asking.proofs.CallLemmas.{goes_none, goes_on, good_of, call_ok, call_err, call_no_memory}
use Rattle.desk_questions.proofs.DumpLemmas.{no_set_told, set_written}
use Rattle.desk_questions.proofs.dumps.dump_set.Goals as goal

pub returns-in_err-rows : goal.returns-in_err-rows
returns-in_err-rows g c =
    let k = g.S.TuneStore in
    call_err k _ _ _ _ _ _ _ (goes_none k _) c.in_err-rows.ensures
    (λ is_open honest refused. no_set_told c.args.name.now (k.state c.args.store.now) _ refused) (search rules)

pub returns-in_err-put_set : goal.returns-in_err-put_set
returns-in_err-put_set g c =
    let k = g.S.TuneStore in call_no_memory k _ _ _ _ (goes_on k _ _ _ _ _ (goes_none k c.args.store.now) c.in_ok-rows.ensures) (search rules)

pub returns : goal.returns
returns g c =
    let k = g.S.TuneStore in
    let start = goes_none k c.args.store.now in
    call_ok k _ _ _ _ (goes_on k _ _ _ _ _ start c.in_ok-rows.ensures)
    (λ is_open honest. set_written c.args.name.now (k.state c.args.store.now) _ _ c.args.script.now.items _
    (good_of k _ _ _ _ _ start c.in_ok-rows.ensures is_open honest) c.as_slice.ensures c.in_ok-put_set.ensures)
