use Rattle.std.proofs.Common.{string_bytes}
use Rattle.desk_scenes.proofs.VisitLemmas.{reads_once, reads_mended}
use Rattle.desk_scenes.proofs.file_opening.open_to_read.Goals as goal

pub returns-in_ok-mend-in-Err-Archive-Device : goal.returns-in_ok-mend-in-Err-Archive-Device
returns-in_ok-mend-in-Err-Archive-Device g c =
    reads_mended g.D.Disk (string_bytes c.args.file.now) c.open_once-in-Err-Archive-Device.result (g.K.Desk.deeds c.args.desk.now)
    (g.K.Desk.deeds c.open_once.new.desk) (g.K.Desk.deeds c.mend.new.desk) (g.K.Desk.deeds c.open_once-in-Err-Archive-Device.new.desk)
    c.in-Err-Archive-Device.ensures c.mend.ensures c.open_once-in-Err-Archive-Device.ensures

pub returns-in_default-3 : goal.returns-in_default-3
returns-in_default-3 g c =
    reads_once g.D.Disk (string_bytes c.args.file.now) c.open_once.result (g.K.Desk.deeds c.args.desk.now) (g.K.Desk.deeds c.open_once.new.desk)
    c.open_once.ensures
