use Rattle.std.proofs.Common.{refl, inl, string_bytes}
use Rattle.std.proofs.lemmas.Result.{err_from_is_err_and}
use Rattle.desk_changes.specs.Inside.TriedUndoings.{steps_of}
use Rattle.desk_changes.proofs.UndoLemmas.{change_of}
use Rattle.desk_changes.proofs.WorkLemmas.{beside_asked, beside_both}
use Rattle.desk_changes.proofs.taking_back.undo_change.Goals as goal

pub returns-in_err-look_at-clause-works : goal.returns-in_err-look_at-clause-works
returns-in_err-look_at-clause-works g c =
    let file = string_bytes c.args.file.now in
    beside_asked g.D.Disk file _ _ _ c.look_at.ensures.asked

pub returns-clause-works : goal.returns-clause-works
returns-clause-works g c =
    let file = string_bytes c.args.file.now in
    let looked = beside_asked g.D.Disk file _ _ _ c.look_at.ensures.asked in
    beside_both g.D.Disk file _ _ _ _ _ _ looked c.undo_entries.ensures.works

pub returns-in_err-look_at-clause-undoes : goal.returns-in_err-look_at-clause-undoes
returns-in_err-look_at-clause-undoes g c =
    let p = err_from_is_err_and c.from_residual.result c.from_residual.ensures.1 in
    rw p.1 (inl (c.look_at.ensures.asked, refl))

pub returns-clause-undoes : goal.returns-clause-undoes
returns-clause-undoes g c =
    change_of g.D.Disk (string_bytes c.args.file.now) (steps_of c.args.changes.now) _ c.undo_entries.result _ _ _ _ _
    (record { asked = c.look_at.ensures.asked; stood = c.in_ok-look_at.ensures.stands }) c.undo_entries.ensures.undoes
