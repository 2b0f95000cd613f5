use Rattle.std.proofs.Common.{string_bytes}
use Rattle.tune_desk.specs.ArchiveFiles.{KeepsEntry}
use Rattle.tune_desk.proofs.EntryLemmas.{begun_keeps}
use Rattle.desk_loads.proofs.script_loads.fill_new.Goals as goal

pub returns-in-Ok : goal.returns-in-Ok
returns-in-Ok g c = λ was begun over. c.put_filled.ensures was c.args.script.now begun over (rw c.in-Ok.is at c.fill_disk-disk.ensures)

pub returns-in-Err : goal.returns-in-Err
returns-in-Err g c = λ was begun over.
    let file = string_bytes c.args.file.now in
    c.leave_archive.ensures KeepsEntry file was (begun_keeps file (string_bytes c.args.begun.place.target) was _ begun)
