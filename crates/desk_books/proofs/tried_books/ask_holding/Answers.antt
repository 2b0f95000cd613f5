use Rattle.std.proofs.Common.{◌≡◌, string_bytes, inr}
use Rattle.tune_store.specs.State.{State}
use Rattle.tune_archive.specs.Shelf.{state_of}
use Rattle.desk_scenes.proofs.VisitLemmas.{is_asked, is_visited, spares_asked, held_asked}
use Rattle.desk_books.proofs.tried_books.ask_holding.Goals as goal

pub returns-in-Ok-counts : goal.returns-in-Ok-counts
returns-in-Ok-counts g c =
    let opening = c.in-Ok.ensures in
    let old = opening.opens.old in
    let new = c.into_disk.result in
    let asked = c.known_texts-known.ensures.asked in
    let after = c.known_texts-known.new.store in
    let layout = c.laid_out-stock.result.layout in
    let spares = spares_asked g.D.Disk old new c.in-Ok.archive after opening.opens.is asked c.into_disk.ensures.disk in
    let told = held_asked g.D.Disk old new c.in-Ok.archive after (λ (state : State). layout ≡ state.layout) opening.opens.is asked c.into_disk.ensures.disk
    (λ was met. (let counts = c.in-Ok-counts.ensures.counts was in c.laid_out-stock.ensures (state_of g.D.Disk.state c.in-Ok.archive).layout counts.0)) in
    is_asked g.D.Disk (string_bytes c.args.request.now.file.now) c.in-Ok.archive (g.K.Desk.deeds c.args.desk.now) (g.K.Desk.deeds c.open_to_read.new.desk)
    (g.K.Desk.deeds c.close.new.self) new _ opening spares c.close.ensures.deed told

pub returns-in-Err-counts : goal.returns-in-Err-counts
returns-in-Err-counts g c =
    let opening = c.in-Ok.ensures in
    let spares = spares_asked g.D.Disk opening.opens.old c.into_disk.result c.in-Ok.archive c.known_texts-known.new.store opening.opens.is
    c.known_texts-known.ensures.asked c.into_disk.ensures.disk in
    let visited = is_visited g.D.Disk (string_bytes c.args.request.now.file.now) c.in-Ok.archive (g.K.Desk.deeds c.args.desk.now)
    (g.K.Desk.deeds c.open_to_read.new.desk) (g.K.Desk.deeds c.close.new.self) c.into_disk.result opening spares c.close.ensures.deed in
    (visited.0, visited.1, inr visited.2)

pub returns-in-Err-known : goal.returns-in-Err-known
returns-in-Err-known g c =
    let opening = c.in-Ok.ensures in
    let spares = spares_asked g.D.Disk opening.opens.old c.into_disk.result c.in-Ok.archive c.known_texts-known.new.store opening.opens.is
    c.known_texts-known.ensures.asked c.into_disk.ensures.disk in
    let visited = is_visited g.D.Disk (string_bytes c.args.request.now.file.now) c.in-Ok.archive (g.K.Desk.deeds c.args.desk.now)
    (g.K.Desk.deeds c.open_to_read.new.desk) (g.K.Desk.deeds c.close.new.self) c.into_disk.result opening spares c.close.ensures.deed in
    (visited.0, visited.1, inr visited.2)
