use Rattle.std.proofs.Common.{string_bytes}
use Rattle.desk_backups.proofs.CopyLemmas.{unvisited, visited}
use Rattle.desk_backups.proofs.file_copies.copy_file.Goals as goal

pub returns-in-Ok : goal.returns-in-Ok
returns-in-Ok g c = visited g.D.Disk (string_bytes c.args.file.now) (string_bytes c.args.path.now) c.in-Ok.source c.copy_from-outcome.new.source
    c.copy_from-outcome.result _ _ _ _ c.in-Ok.ensures.deed c.copy_from-outcome.ensures.copies c.close.ensures.deed

pub returns-in-Err : goal.returns-in-Err
returns-in-Err g c = unvisited g.D.Disk (string_bytes c.args.file.now) (string_bytes c.args.path.now) c.in-Err.fault _ _ c.in-Err.ensures.deed
