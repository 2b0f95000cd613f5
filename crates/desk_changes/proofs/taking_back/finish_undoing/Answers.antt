use Rattle.std.proofs.Common.{inl, inr, refl, string_bytes}
use Rattle.std.proofs.lemmas.Result.{err_from_is_err_and}
use Rattle.tune_undo.specs.declared.old_entries.Mark.TheVariants.{Undone}
use Rattle.tune_archive.specs.AsStore.{store_on}
use Rattle.tune_asking.proofs.CallLemmas.{asked_none}
use Rattle.desk_changes.proofs.WorkLemmas.{beside_archive, then_files, then_works, works_asked, works_carried}
use Rattle.desk_changes.proofs.taking_back.finish_undoing.Goals as goal

pub returns-in_err-restore-clause-works : goal.returns-in_err-restore-clause-works
returns-in_err-restore-clause-works g c =
    let file = string_bytes c.args.file.now in
    beside_archive g.D.Disk file _ _ _ (works_carried g.D.Disk _ _ _ _ c.restore.ensures)

pub returns-in_err-keep_mark-clause-works : goal.returns-in_err-keep_mark-clause-works
returns-in_err-keep_mark-clause-works g c =
    let file = string_bytes c.args.file.now in
    let restored = beside_archive g.D.Disk file _ _ _ (works_carried g.D.Disk _ _ _ _ c.restore.ensures) in
    then_files g.D.Disk file _ _ _ _ _ restored c.keep_mark.ensures.files

pub returns-in_err-tell_undone-clause-works : goal.returns-in_err-tell_undone-clause-works
returns-in_err-tell_undone-clause-works g c =
    let file = string_bytes c.args.file.now in
    let restored = beside_archive g.D.Disk file _ _ _ (works_carried g.D.Disk _ _ _ _ c.restore.ensures) in
    let marked = then_files g.D.Disk file _ _ _ _ _ restored c.keep_mark.ensures.files in
    then_works g.D.Disk file _ _ _ _ _ marked (works_asked g.D.Disk _ _ c.tell_undone.ensures.asked)

pub returns-clause-works : goal.returns-clause-works
returns-clause-works g c =
    let file = string_bytes c.args.file.now in
    let restored = beside_archive g.D.Disk file _ _ _ (works_carried g.D.Disk _ _ _ _ c.restore.ensures) in
    let marked = then_files g.D.Disk file _ _ _ _ _ restored c.keep_mark.ensures.files in
    then_works g.D.Disk file _ _ _ _ _ marked (works_asked g.D.Disk _ _ c.tell_undone.ensures.asked)

pub returns-in_err-restore-clause-finishes : goal.returns-in_err-restore-clause-finishes
returns-in_err-restore-clause-finishes g c =
    let p = err_from_is_err_and c.from_residual.result c.from_residual.ensures.1 in
    rw p.1 (record {
      last = c.restore.new.store;
      brings = inr (_, c.in_err-restore.ensures, refl);
      asked = asked_none (store_on g.D.Disk) c.restore.new.store;
    })

pub returns-in_err-keep_mark-clause-finishes : goal.returns-in_err-keep_mark-clause-finishes
returns-in_err-keep_mark-clause-finishes g c =
    let p = err_from_is_err_and c.from_residual-in_err-keep_mark.result c.from_residual-in_err-keep_mark.ensures.1 in
    rw p.1 (record {
      last = c.restore.new.store;
      brings = inl (c.in_ok-restore.ensures, inl c.in_err-keep_mark.ensures.refused);
      asked = asked_none (store_on g.D.Disk) c.restore.new.store;
    })

pub returns-in_err-tell_undone-clause-finishes : goal.returns-in_err-tell_undone-clause-finishes
returns-in_err-tell_undone-clause-finishes g c =
    let p = err_from_is_err_and c.from_residual-in_err-tell_undone.result c.from_residual-in_err-tell_undone.ensures.1 in
    rw p.1 (record {
      last = c.restore.new.store;
      brings = inl (c.in_ok-restore.ensures, inr (Undone, refl, c.in_ok-keep_mark.ensures.kept));
      asked = c.tell_undone.ensures.asked;
    })

pub returns-clause-finishes : goal.returns-clause-finishes
returns-clause-finishes g c =
    let tells = c.in_ok-tell_undone.ensures.tells in
    record {
      more = tells.more;
      are = tells.are;
      so = record {
        last = c.restore.new.store;
        carried = c.in_ok-restore.ensures;
        marked = c.in_ok-keep_mark.ensures.kept;
        asked = c.tell_undone.ensures.asked;
        tells = tells.so;
      };
    }
