use Rattle.std.proofs.Common.{string_bytes, inr}
use Rattle.desk_scenes.proofs.VisitLemmas.{is_visited, spares_closed}
use Rattle.desk_scenes.proofs.file_opening.bring_to_rest.Goals as goal

pub returns : goal.returns
returns g c =
    let opening = c.in_ok-archive.ensures in
    let spares = spares_closed g.D.Disk opening.opens.old c.into_disk.result c.in_ok-archive.archive opening.opens.is c.into_disk.ensures.disk in
    let visited = is_visited g.D.Disk (string_bytes c.args.file.now) c.in_ok-archive.archive (g.K.Desk.deeds c.args.desk.now)
    (g.K.Desk.deeds c.open_to_read.new.desk) (g.K.Desk.deeds c.close.new.self) c.into_disk.result opening spares c.close.ensures.deed in
    (visited.0, visited.1, inr visited.2)
