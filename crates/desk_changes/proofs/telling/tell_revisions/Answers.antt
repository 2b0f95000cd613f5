use Rattle.std.proofs.Common.{◌∷◌, ◌∙◌, ◌+◌, drop, arith, sym, ap}
use Rattle.std.proofs.lemmas.List.{drop_all, drop_more}
use Rattle.tune_asking.proofs.CallLemmas.{asked_more}
use Rattle.tune_undo.specs.declared.old_entries.Part.{Part}
use Rattle.desk_changes.proofs.TellingLemmas.{tells_done, tells_next, tells_none}
use Rattle.desk_changes.proofs.telling.tell_revisions.Goals as goal

pub loop-part-init : goal.loop-part-init
loop-part-init g c = tells_none g.S.TuneStore _ _ _

pub returns-in_err-tell_revision-clause-asked : goal.returns-in_err-tell_revision-clause-asked
returns-in_err-tell_revision-clause-asked g c = asked_more g.S.TuneStore _ _ _ c.loop-part.invariant.asked c.tell_revision.ensures.asked

pub returns-clause-asked : goal.returns-clause-asked
returns-clause-asked g c = c.loop-part.invariant.asked

pub loop-part-preserved : goal.loop-part-preserved
loop-part-preserved g c =
    let parts = c.args.parts.now in
    let i = c.loop-part.part-index in
    let part = c.part-item.result in
    tells_next g.S.TuneStore _ _ _ _ _ _ parts _ _ part c.loop-part.invariant c.tell_revision.ensures.asked c.in_ok-tell_revision.ensures.tells
    (drop_more parts i part c.loop-part-test.true ∙ ap (λ (p : Part). p ∷ drop (i + 1) parts) (sym c.part-item.is))

pub returns-clause-tells : goal.returns-clause-tells
returns-clause-tells g c =
    tells_done g.S.TuneStore _ _ _ _ _ _ c.loop-part.invariant (drop_all c.loop-part.part-index c.args.parts.now (omega arith))
