use Rattle.std.proofs.Common.{string_bytes, ◌≡◌, Some, inr}
use Rattle.tune_store.specs.State.{tune_at}
use Rattle.desk_scenes.proofs.VisitLemmas.{is_asked, is_visited, spares_asked, held_asked}
use Rattle.desk_orders.proofs.file_questions.ask_tune.Goals as goal

pub returns-in-Ok-answer : goal.returns-in-Ok-answer
returns-in-Ok-answer g c =
    let opening = c.in-Ok.ensures in
    let old = opening.opens.old in
    let new = c.into_disk.result in
    let asked = c.in-Ok-answer.ensures.asked in
    let spares = spares_asked g.D.Disk old new c.in-Ok.archive c.shown_tune-answer.new.archive opening.opens.is asked c.into_disk.ensures.disk in
    let told = held_asked g.D.Disk old new c.in-Ok.archive c.shown_tune-answer.new.archive
    (λ state. tune_at c.args.number state.tunes ≡ Some c.in-Ok-answer.tune)
    opening.opens.is asked c.into_disk.ensures.disk
    (λ was met. c.in-Ok-answer.ensures.told opening.opens.is.is_open met) in
    is_asked g.D.Disk (string_bytes c.args.file.now) c.in-Ok.archive (g.K.Desk.deeds c.args.desk.now) (g.K.Desk.deeds c.open_to_read.new.desk)
    (g.K.Desk.deeds c.close.new.self) new _ opening spares c.close.ensures.deed told

pub returns-in-Err-answer : goal.returns-in-Err-answer
returns-in-Err-answer g c =
    let opening = c.in-Ok.ensures in
    let spares = spares_asked g.D.Disk opening.opens.old c.into_disk.result c.in-Ok.archive c.shown_tune-answer.new.archive opening.opens.is
    c.shown_tune-answer.ensures.asked c.into_disk.ensures.disk in
    let visited = is_visited g.D.Disk (string_bytes c.args.file.now) c.in-Ok.archive (g.K.Desk.deeds c.args.desk.now)
    (g.K.Desk.deeds c.open_to_read.new.desk) (g.K.Desk.deeds c.close.new.self) c.into_disk.result opening spares c.close.ensures.deed in
    (visited.0, visited.1, inr visited.2)
