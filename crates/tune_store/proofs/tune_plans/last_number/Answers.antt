use Rattle.std.proofs.Common.{arith}
use Rattle.tune_store.proofs.PlanLemmas.{last_label, all_under, none_under}
use Rattle.tune_store.proofs.tune_plans.last_number.Goals as goal

pub returns-then-len-eq0-clause-above : goal.returns-then-len-eq0-clause-above
returns-then-len-eq0-clause-above g c =
    let count = c.len-len.ensures.count in
    none_under _ _ (omega (arith, c.if-len-eq0.true))

pub returns-clause-greatest : goal.returns-clause-greatest
returns-clause-greatest g c = λ tunes rises same.
    let some = c.if-len-eq0.false in
    last_label tunes _ c.label.result c.len-len.result rises same c.len-len.ensures.count (omega arith) c.label.ensures

pub returns-clause-above : goal.returns-clause-above
returns-clause-above g c =
    let some = c.if-len-eq0.false in
    all_under _ c.label.result c.len-len.result c.len-len.ensures.rise c.len-len.ensures.count (omega arith) c.label.ensures
