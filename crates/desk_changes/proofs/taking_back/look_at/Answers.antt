use Rattle.std.proofs.lemmas.List.{drop_all, drop_more}
use Rattle.tune_asking.proofs.CallLemmas.{asked_more}
use Rattle.tune_undo.specs.declared.old_entries.Step.{Step}
use Rattle.std.proofs.Common.{◌∷◌, ◌∙◌, ◌+◌, drop, arith, sym, ap}
use Rattle.desk_changes.proofs.LookingLemmas.{one_more, standing_done, standing_none}
use Rattle.desk_changes.proofs.taking_back.look_at.Goals as goal

pub loop-change-init : goal.loop-change-init
loop-change-init g c = standing_none g.S.TuneStore _ _

pub returns-in_err-look_at_entry-clause-asked : goal.returns-in_err-look_at_entry-clause-asked
returns-in_err-look_at_entry-clause-asked g c = asked_more g.S.TuneStore _ _ _ c.loop-change.invariant.asked c.look_at_entry.ensures.asked

pub loop-change-preserved : goal.loop-change-preserved
loop-change-preserved g c =
    let changes = c.args.changes.now in
    let i = c.loop-change.change-index in
    let change = c.change-item.result in
    record {
      asked = asked_more g.S.TuneStore _ _ _ c.loop-change.invariant.asked c.look_at_entry.ensures.asked;
      stood = one_more g.S.TuneStore _ _ _ changes _ _ change c.loop-change.invariant c.look_at_entry.ensures.asked c.in_ok-look_at_entry.ensures.stands
          (drop_more changes i change c.loop-change-test.true ∙ ap (λ (step : Step). step ∷ drop (i + 1) changes) (sym c.change-item.is));
    }

pub returns-clause-stands : goal.returns-clause-stands
returns-clause-stands g c =
    standing_done g.S.TuneStore _ _ _ _ c.loop-change.invariant (drop_all c.loop-change.change-index c.args.changes.now (omega arith))
