use Rattle.std.proofs.Common.{◌≡◌, List, None, false, inl, refl, rules, subst, string_bytes}
use Rattle.std.proofs.lemmas.Result.{err_from_is_err_and}
use Rattle.tune_desk.specs.Results.{result_places}
use Rattle.desk_scenes.proofs.FileLemmas.{quiet_spares}
use Rattle.tune_undo.specs.declared.old_entries.Step.{Step}
use Rattle.desk_changes.specs.OldChanges.{ReadsSteps}
use Rattle.desk_changes.specs.Inside.TriedUndoings.{steps_of}
use Rattle.desk_changes.proofs.UndoLemmas.{book_then, reads_quiet}
use Rattle.desk_changes.proofs.WorkLemmas.{beside_files, beside_both}
use Rattle.desk_changes.proofs.taking_back.undo_in_archive.Goals as goal

pub returns-in_err-changes-clause-works : goal.returns-in_err-changes-clause-works
returns-in_err-changes-clause-works g c =
    let file = string_bytes c.args.file.now in
    beside_files g.D.Disk file _ _ _ (quiet_spares g.D.Disk (result_places file None false) _ _ c.in_err-changes.ensures.reads)

pub returns-clause-works : goal.returns-clause-works
returns-clause-works g c =
    let file = string_bytes c.args.file.now in
    beside_both g.D.Disk file _ _ _ _ _ _
    (beside_files g.D.Disk file _ _ _ (quiet_spares g.D.Disk (result_places file None false) _ _ (reads_quiet file _ _ _ c.in_ok-changes.ensures.reads)))
    c.undo_times.ensures.works

pub returns-in_err-changes-clause-undoes : goal.returns-in_err-changes-clause-undoes
returns-in_err-changes-clause-undoes g c =
    let p = err_from_is_err_and c.from_residual.result c.from_residual.ensures.1 in
    rw p.1 (inl (refl, c.in_err-changes.ensures.reads))

pub returns-clause-undoes : goal.returns-clause-undoes
returns-clause-undoes g c =
    let file = string_bytes c.args.file.now in
    let same : c.in_ok-changes.changes.items ≡ c.as_slice.result.now = search rules in
    book_then g.D.Disk file c.args.count _ (steps_of c.as_slice.result.now) c.undo_times.result _ _ _ _ _
    (subst (λ (l : List Step). ReadsSteps file (steps_of l) (g.K.Desk.deeds c.args.desk.now) (g.K.Desk.deeds c.read_changes.new.desk)) same
    c.in_ok-changes.ensures.reads) c.undo_times.ensures.undoes
