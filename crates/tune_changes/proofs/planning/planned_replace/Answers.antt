use Rattle.std.proofs.Common.{◌≡◌, refl, sym, ap, ◌∙◌}
use Rattle.tune_store.specs.State.{tune_at}
use Rattle.tune_asking.proofs.CallLemmas.{goes_none, goes_on, good_of}
use Rattle.tune_changes.specs.Planning.{text_replaced}
use Rattle.tune_changes.proofs.PlanLemmas.{told_is, told_then, tune_found}
use Rattle.tune_changes.proofs.planning.planned_replace.Goals as goal

pub returns : goal.returns
returns g c =
    let k = g.S.TuneStore in
    let state = k.state c.args.store.now in
    let start = goes_none k c.args.store.now in
    let there = tune_at c.args.number state.tunes in
    let told = text_replaced c.args.number c.args.revision c.args.text there in
    told_then k _ _ _ _ (goes_on k _ _ _ _ _ start c.in_ok-tune.ensures)
    (λ is_open h. c.alone.ensures told
    (told_is told c.text_replaced.result (c.text_replaced.ensures ∙ ap (text_replaced c.args.number c.args.revision c.args.text)
    (sym (tune_found c.args.number there c.in_ok-tune.tune (good_of k _ _ _ _ _ start c.in_ok-tune.ensures is_open h))))))
