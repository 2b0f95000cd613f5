use Rattle.std.proofs.Common.{string_bytes, ◌≡◌, Ok, inr}
use Rattle.desk_questions.specs.Told.{told}
use Rattle.desk_scenes.proofs.VisitLemmas.{is_asked, is_visited, spares_asked, held_asked}
use Rattle.desk_orders.proofs.file_questions.ask_question.Goals as goal

pub returns-in-Ok-answer : goal.returns-in-Ok-answer
returns-in-Ok-answer g c =
    let opening = c.in-Ok.ensures in
    let old = opening.opens.old in
    let new = c.into_disk.result in
    let asked = c.in-Ok-answer.ensures.asked in
    let spares = spares_asked g.D.Disk old new c.in-Ok.archive c.tell-answer.new.store opening.opens.is asked c.into_disk.ensures.disk in
    let told = held_asked g.D.Disk old new c.in-Ok.archive c.tell-answer.new.store (λ state. told c.args.question.now state ≡ Ok c.in-Ok-answer.bytes)
    opening.opens.is asked c.into_disk.ensures.disk
    (λ was met. c.in-Ok-answer.ensures.told opening.opens.is.is_open met (c.law_of_labels.ensures opening.opens.is.is_open was)) in
    is_asked g.D.Disk (string_bytes c.args.file.now) c.in-Ok.archive (g.K.Desk.deeds c.args.desk.now) (g.K.Desk.deeds c.open_to_read.new.desk)
    (g.K.Desk.deeds c.close.new.self) new _ opening spares c.close.ensures.deed told

pub returns-in-Err-answer : goal.returns-in-Err-answer
returns-in-Err-answer g c =
    let opening = c.in-Ok.ensures in
    let spares = spares_asked g.D.Disk opening.opens.old c.into_disk.result c.in-Ok.archive c.tell-answer.new.store opening.opens.is
    c.tell-answer.ensures.asked c.into_disk.ensures.disk in
    let visited = is_visited g.D.Disk (string_bytes c.args.file.now) c.in-Ok.archive (g.K.Desk.deeds c.args.desk.now)
    (g.K.Desk.deeds c.open_to_read.new.desk) (g.K.Desk.deeds c.close.new.self) c.into_disk.result opening spares c.close.ensures.deed in
    (visited.0, visited.1, inr visited.2)
