use Rattle.std.proofs.Common.{string_bytes}
use Rattle.desk_copies.proofs.RestoreEnds.{visited_then, unvisited}
use Rattle.desk_copies.proofs.restores.restore_file.Goals as goal

pub returns-in-Ok : goal.returns-in-Ok
returns-in-Ok g c = visited_then g.D.Disk (string_bytes c.args.asked.now.file.now) (string_bytes c.args.asked.now.copy.now) c.in-Ok.source
    c.restore_agreed-outcome.new.source c.restore_agreed-outcome.result _ _ _ _
    c.in-Ok.ensures.deed c.restore_agreed-outcome.ensures.restores c.close.ensures.deed

pub returns-in-Err : goal.returns-in-Err
returns-in-Err g c =
    unvisited g.D.Disk (string_bytes c.args.asked.now.file.now) (string_bytes c.args.asked.now.copy.now) c.in-Err.fault _ _ c.in-Err.ensures.deed
