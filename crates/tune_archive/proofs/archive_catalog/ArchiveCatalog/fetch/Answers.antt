use Rattle.std.proofs.Common.{◌<◌, refl, ap, sym, subst, length, Some}
use Rattle.std.specs.Prelude.{Ok, Err}
use Rattle.tune_format.specs.declared.rows.Row.{Row}
use Rattle.tune_contents.specs.Holds.{labels_in}
use Rattle.tune_archive.specs.Shelf.{Shelf, state_on}
use Rattle.tune_archive.specs.Inside.Fetching.{HasFetched, Fetches}
use Rattle.tune_pages.specs.Edited.{stand_of}
use Rattle.tune_archive.specs.declared.archive.Fetched.{Fetched}
use Rattle.tune_archive.proofs.FetchLemmas.{place_inside, some_text, shelf_kept, fetches}
use Rattle.tune_archive.proofs.archive_catalog.ArchiveCatalog.fetch.Goals as goal

pub read_text-requires-clause-there : goal.read_text-requires-clause-there
read_text-requires-clause-there g c = λ h.
    (let pages = c.self.inside.edit.base in
    let contents = c.self.inside.contents in
    let held = c.self.invariant.holds h c.if-self.false in
    let labelled : c.args.place < length (labels_in contents.rows.items) =
    subst (λ (s : Shelf g.row.D.Denot). c.args.place < length (labels_in s.contents.rows.items)) (sym c.self.view_is) c.requires in
    some_text (stand_of pages) contents (state_on g.D.Disk.state pages.disk) c.args.place c.at-first.result.first c.at-first.result held.holds held.within
    (place_inside contents.rows.items c.args.place labelled) (ap (λ (row : Row). row.first) c.at-first.ensures))

pub invariant_of-self : goal.invariant_of-self
invariant_of-self g c =
    shelf_kept g.D.Disk.honest g.D.Disk.failures g.D.Disk.state (Ok c.in-Ok.text) c.self.inside.edit.base c.read_text.new.edit.base c.self.inside.contents
    c.self.inside.closed c.self.invariant c.in-Ok.ensures.looks c.in-Ok.ensures.looks.same

pub invariant_of-self-in-Err-OutOfMemory : goal.invariant_of-self-in-Err-OutOfMemory
invariant_of-self-in-Err-OutOfMemory g c =
    let looks = c.in-Err-OutOfMemory.ensures.looks in
    let is = c.in-Err-OutOfMemory.field-0-is in
    shelf_kept g.D.Disk.honest g.D.Disk.failures g.D.Disk.state (Err c.in-Err-OutOfMemory.field-0) c.self.inside.edit.base c.read_text.new.edit.base
    c.self.inside.contents c.self.inside.closed c.self.invariant looks (looks.same (λ e. (let no : ⊥ = cc in no)))

pub returns-in-Ok : goal.returns-in-Ok
returns-in-Ok g c =
    let pages = c.self.inside.edit.base in
    let contents = c.self.inside.contents in
    let last : Fetched = record { place = c.args.place; text = c.in-Ok.text } in
    let old : Shelf g.row.D.Denot =
    record { pages = pages; contents = contents; fetched = c.self.inside.fetched; closed = c.self.inside.closed } in
    let new : Shelf g.row.D.Denot =
    record { pages = c.read_text.new.edit.base; contents = contents; fetched = Some last; closed = c.self.inside.closed } in
    let labelled : c.args.place < length (labels_in contents.rows.items) =
    subst (λ (s : Shelf g.row.D.Denot). c.args.place < length (labels_in s.contents.rows.items)) (sym c.self.view_is) c.requires in
    subst
    (λ (s : Shelf g.row.D.Denot).
    Fetches g.D.Disk.honest g.D.Disk.failures g.D.Disk.state s new × HasFetched g.D.Disk.honest g.D.Disk.state new c.args.place)
    c.self.view_is
    (fetches g.D.Disk.honest g.D.Disk.failures g.D.Disk.state old new c.args.place c.at-first.result.first c.at-first.result last c.self.invariant
    c.if-self.false (place_inside contents.rows.items c.args.place labelled) (ap (λ (row : Row). row.first) c.at-first.ensures)
    c.in-Ok.ensures.looks c.in-Ok.ensures.text refl refl refl)
