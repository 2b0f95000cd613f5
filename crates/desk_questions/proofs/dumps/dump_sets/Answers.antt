use Rattle.std.proofs.Common.{rules, refl, ◌∙◌}
use Rattle.tune_asking.proofs.CallLemmas.{goes_none, goes_on, good_of, call_err, call_same}
use Rattle.desk_questions.proofs.DumpLemmas.{all_rows}
use Rattle.desk_questions.proofs.dumps.dump_sets.Goals as goal

pub returns-in_err-sets : goal.returns-in_err-sets
returns-in_err-sets g c =
    let k = g.S.TuneStore in
    call_err k _ _ _ _ _ _ _ (goes_none k _) c.in_err-sets.ensures (λ is_open honest refused. absurd cc) (search rules)

pub returns : goal.returns
returns g c =
    let k = g.S.TuneStore in
    let start = goes_none k c.args.store.now in
    call_same k _ _ _ _ _ _ (goes_on k _ _ _ _ _ start c.in_ok-sets.ensures) c.dump_each.ensures
    (λ is_open honest value good. good (c.as_slice.ensures
    ∙ all_rows _ _ _ refl (good_of k _ _ _ _ _ start c.in_ok-sets.ensures is_open (c.dump_each.ensures.asked.was_honest honest))))
    (λ is_open honest refusal refused. refused (c.as_slice.ensures
    ∙ all_rows _ _ _ refl (good_of k _ _ _ _ _ start c.in_ok-sets.ensures is_open (c.dump_each.ensures.asked.was_honest honest))))
