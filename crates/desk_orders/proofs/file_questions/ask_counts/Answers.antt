use Rattle.std.proofs.Common.{string_bytes}
use Rattle.desk_scenes.specs.OpenedFile.{CountsOf}
use Rattle.desk_scenes.proofs.VisitLemmas.{is_asked, spares_closed, held_closed}
use Rattle.desk_orders.proofs.file_questions.ask_counts.Goals as goal

pub returns-in-Ok-counts : goal.returns-in-Ok-counts
returns-in-Ok-counts g c =
    let opening = c.in-Ok.ensures in
    let spares = spares_closed g.D.Disk opening.opens.old c.into_disk.result c.in-Ok.archive opening.opens.is c.into_disk.ensures.disk in
    let told = held_closed g.D.Disk opening.opens.old c.into_disk.result c.in-Ok.archive (CountsOf c.in-Ok-counts.counts) opening.opens.is
    c.into_disk.ensures.disk (λ honest. (let counts = c.in-Ok-counts.ensures.counts honest in
    record { layout = counts.0; tunes = counts.1; sets = counts.2 })) in
    is_asked g.D.Disk (string_bytes c.args.file.now) c.in-Ok.archive (g.K.Desk.deeds c.args.desk.now) (g.K.Desk.deeds c.open_to_read.new.desk)
    (g.K.Desk.deeds c.close.new.self) c.into_disk.result _ opening spares c.close.ensures.deed told
