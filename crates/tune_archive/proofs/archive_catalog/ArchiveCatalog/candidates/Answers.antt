use Rattle.std.proofs.Common.{length, refl, subst, Ok, Err}
use Rattle.tune_store.specs.Candidates.{HoldsFound, PlacesRise}
use Rattle.tune_store.specs.Limits.{notes_of}
use Rattle.tune_contents.specs.Holds.{labels_in}
use Rattle.tune_archive.specs.Shelf.{Shelf, state_of, state_on}
use Rattle.tune_archive.specs.Inside.Fetching.{Fetches, KnowsState}
use Rattle.tune_pages.specs.Edited.{stand_of}
use Rattle.tune_archive.proofs.FetchLemmas.{shelf_kept}
use Rattle.tune_archive.proofs.FoundPlaces.{found_in_archive, some_texts}
use Rattle.tune_archive.proofs.archive_catalog.ArchiveCatalog.candidates.Goals as goal

pub values_for-requires-clause-holds : goal.values_for-requires-clause-holds
values_for-requires-clause-holds g c = λ h.
    (let pages = c.self.inside.edit.base in
    some_texts (stand_of pages) c.self.inside.contents (state_on g.D.Disk.state pages.disk) (c.self.invariant.holds h c.if-self.false).holds)

pub invariant_of-self : goal.invariant_of-self
invariant_of-self g c =
    shelf_kept g.D.Disk.honest g.D.Disk.failures g.D.Disk.state (Ok c.in-Ok.numbers) c.self.inside.edit.base c.values_for.new.edit.base c.self.inside.contents
    c.self.inside.closed c.self.invariant c.in-Ok.ensures.looks c.in-Ok.ensures.looks.same

pub invariant_of-self-in-Ok : goal.invariant_of-self-in-Ok
invariant_of-self-in-Ok g c =
    shelf_kept g.D.Disk.honest g.D.Disk.failures g.D.Disk.state (Ok c.in-Ok.numbers) c.self.inside.edit.base c.values_for.new.edit.base c.self.inside.contents
    c.self.inside.closed c.self.invariant c.in-Ok.ensures.looks c.in-Ok.ensures.looks.same

pub invariant_of-self-in-Err-OutOfMemory : goal.invariant_of-self-in-Err-OutOfMemory
invariant_of-self-in-Err-OutOfMemory g c =
    let looks = c.in-Err-OutOfMemory.ensures.looks in
    let is = c.in-Err-OutOfMemory.field-0-is in
    shelf_kept g.D.Disk.honest g.D.Disk.failures g.D.Disk.state (Err c.in-Err-OutOfMemory.field-0) c.self.inside.edit.base c.values_for.new.edit.base
    c.self.inside.contents c.self.inside.closed c.self.invariant looks (looks.same (λ e. (let no : ⊥ = cc in no)))

pub returns-in_ok-places_of_numbers-in-Ok : goal.returns-in_ok-places_of_numbers-in-Ok
returns-in_ok-places_of_numbers-in-Ok g c =
    let honest = g.D.Disk.honest in
    let state = g.D.Disk.state in
    let contents = c.self.inside.contents in
    let looks = c.in-Ok.ensures.looks in
    let places = c.in_ok-places_of_numbers-in-Ok.field-0.items in
    let given = c.in_ok-places_of_numbers-in-Ok.ensures in
    let old : Shelf g.row.D.Denot =
    record { pages = c.self.inside.edit.base; contents = contents; fetched = c.self.inside.fetched; closed = c.self.inside.closed } in
    let new : Shelf g.row.D.Denot =
    record { pages = c.values_for.new.edit.base; contents = contents; fetched = c.self.inside.fetched; closed = c.self.inside.closed } in
    subst
    (λ (s : Shelf g.row.D.Denot). Fetches honest g.D.Disk.failures state s new × PlacesRise 0 (length (labels_in s.contents.rows.items)) places
    × (KnowsState honest state new → HoldsFound (notes_of s.contents.layout) c.args.sought.now (state_of state s).tunes places))
    c.self.view_is (
      record { was_honest = looks.was_honest; same_state = looks.same_state; counted = looks.counted; contents = refl; closed = refl },
      given.rise,
      λ told.
          found_in_archive honest state old c.args.sought.now c.in-Ok.numbers.items places c.self.invariant c.if-self.false
          (looks.was_honest told.was_honest) (c.in-Ok.ensures.finds told.was_honest)
          given.places,
    )
