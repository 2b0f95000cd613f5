use Rattle.std.proofs.Common.{string_bytes, subst, sym}
use Rattle.tune_desk.specs.ArchiveFiles.{KeepsEntry}
use Rattle.tune_desk.proofs.EntryLemmas.{archive_unkept, begun_keeps}
use Rattle.desk_loads.specs.LoadedScripts.{KeepsLoad}
use Rattle.desk_loads.proofs.LoadLemmas.{begun_kept}
use Rattle.desk_loads.proofs.script_loads.put_filled.Goals as goal

pub returns-in-Ok-put_archive : goal.returns-in-Ok-put_archive
returns-in-Ok-put_archive g c = λ was script begun over holds.
    let file = string_bytes c.args.file.now in
    let target = string_bytes c.args.place.target in
    let parts = c.args.filled.parts.items in
    let kept = begun_kept file target parts was _ _ (begun_keeps file target was _ begun) c.keep_load.ensures.files c.in-Ok.ensures.kept in
    let put = c.in-Ok-put_archive.ensures KeepsEntry file was kept over in
    record {
      disk = c.args.disk;
      parts = parts;
      target = target;
      filled = g.K.Desk.deeds c.args.desk.now;
      makes = put.0;
      begun = begun;
      puts = put.1.0;
      keeps = subst (KeepsLoad file parts (g.K.Desk.deeds c.args.desk.now)) (sym put.1.1) c.in-Ok.ensures.kept;
      loads = holds;
    }

pub returns-in-Err-put_archive : goal.returns-in-Err-put_archive
returns-in-Err-put_archive g c = λ was script begun over holds.
    let file = string_bytes c.args.file.now in
    let target = string_bytes c.args.place.target in
    let kept = begun_kept file target c.args.filled.parts.items was _ _ (begun_keeps file target was _ begun) c.keep_load.ensures.files c.in-Ok.ensures.kept in
    c.in-Err-put_archive.ensures KeepsEntry file was kept over

pub returns-in-Err : goal.returns-in-Err
returns-in-Err g c = λ was script begun over holds.
    let file = string_bytes c.args.file.now in
    let target = string_bytes c.args.place.target in
    c.leave_archive.ensures KeepsEntry file was
    (archive_unkept file target was _ _ (begun_keeps file target was _ begun) c.keep_load.ensures.files c.in-Err.ensures.refused)
