use Rattle.tune_asking.proofs.CallLemmas.{asked_more}
use Rattle.desk_changes.proofs.undone.stray_of.Goals as goal

pub returns-in_err-tune_if_any : goal.returns-in_err-tune_if_any
returns-in_err-tune_if_any g c = asked_more g.S.TuneStore _ _ _ c.loop-part.invariant c.tune_if_any.ensures.asked

pub returns-then-is_none : goal.returns-then-is_none
returns-then-is_none g c =
    asked_more g.S.TuneStore _ _ _ (asked_more g.S.TuneStore _ _ _ c.loop-part.invariant c.tune_if_any.ensures.asked) c.stray_at.ensures

pub loop-part-preserved-in-Some-part-2 : goal.loop-part-preserved-in-Some-part-2
loop-part-preserved-in-Some-part-2 g c = asked_more g.S.TuneStore _ _ _ c.loop-part.invariant c.tune_if_any.ensures.asked
