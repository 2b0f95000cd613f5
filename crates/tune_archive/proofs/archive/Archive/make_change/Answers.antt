use Rattle.std.proofs.Common.{◌≡◌, false, None, Err, refl, sym, subst, ◌∙◌, ap}
use Rattle.tune_pages.specs.Kept.{Kept}
use Rattle.tune_archive.specs.Shelf.{Shelf, state_on}
use Rattle.tune_archive.specs.Inside.Changing.{MakesChange}
use Rattle.tune_archive.specs.Inside.Holding.{IsShelf}
use Rattle.tune_archive.proofs.MadeChanges.{stays_within, made_shelf, made, kept_shelf, unmade}
use Rattle.tune_archive.proofs.archive.Archive.make_change.Goals as goal

pub change_pages-requires-clause-holds : goal.change_pages-requires-clause-holds
change_pages-requires-clause-holds g c = λ h.
    (let is_open : c.self.inside.closed ≡ false = ap (λ (s : Shelf g.row.D.Denot). s.closed) c.self.view_is ∙ c.requires.open in
    let held = c.self.invariant.holds h is_open in
    (state_on g.D.Disk.state c.self.inside.edit.base.disk, held.within, held.holds))

pub change_pages-requires-clause-within : goal.change_pages-requires-clause-within
change_pages-requires-clause-within g c =
    stays_within g.D.Disk.honest g.D.Disk.state _ c.args.self.now c.self.view_is c.self.invariant c.requires.open c.args.change c.requires.within

pub invariant_of-self : goal.invariant_of-self
invariant_of-self g c =
    let new : Shelf g.row.D.Denot = record {
      pages = c.change_pages.new.edit.base;
      contents = c.change_pages.new.contents;
      fetched = None;
      closed = c.self.inside.closed;
    } in
    let done = c.in-Ok.ensures in
    (made_shelf g.D.Disk.honest g.D.Disk.failures g.D.Disk.state g.met.D.Disk.seen_may_stay _ c.args.self.now c.self.view_is c.self.invariant
    c.requires.open c.args.change c.requires.within new done.moments c.change_pages.new.contents done.calls done.laid done.rows done.marks done.answer)

pub invariant_of-self-in-Err : goal.invariant_of-self-in-Err
invariant_of-self-in-Err g c =
    let new : Shelf g.row.D.Denot = record {
      pages = c.change_pages.new.edit.base;
      contents = c.change_pages.new.contents;
      fetched = None;
      closed = c.closes-self-inside.result;
    } in
    let done = c.in-Err.ensures in
    subst (λ (k : Kept _). IsShelf g.D.Disk.honest g.D.Disk.state k c.change_pages.new.contents c.closes-self-inside.result) (sym c.end.ensures.base)
    (kept_shelf g.D.Disk.honest g.D.Disk.failures g.D.Disk.state g.met.D.Disk.seen_may_stay _ c.args.self.now c.self.view_is c.self.invariant c.requires.open
    c.args.change c.requires.within new done.moments c.in-Err.fault done.calls c.closes-self-inside.ensures done.answer done.stays done.never_full
    c.change_pages.new.contents done.same)

pub returns-in-Ok : goal.returns-in-Ok
returns-in-Ok g c =
    let new : Shelf g.row.D.Denot = record {
      pages = c.change_pages.new.edit.base;
      contents = c.change_pages.new.contents;
      fetched = None;
      closed = c.self.inside.closed;
    } in
    let done = c.in-Ok.ensures in
    (made g.D.Disk.honest g.D.Disk.failures g.D.Disk.state g.met.D.Disk.seen_may_stay _ c.args.self.now c.self.view_is c.self.invariant
    c.requires.open c.args.change c.requires.within new done.moments c.change_pages.new.contents done.calls done.laid refl)

pub returns-in-Err : goal.returns-in-Err
returns-in-Err g c =
    let new : Shelf g.row.D.Denot = record {
      pages = c.change_pages.new.edit.base;
      contents = c.change_pages.new.contents;
      fetched = None;
      closed = c.closes-self-inside.result;
    } in
    let done = c.in-Err.ensures in
    subst
    (λ (k : Kept _). MakesChange g.D.Disk (Err c.refusal_of.result) c.args.self.now
    (record { pages = k; contents = c.change_pages.new.contents; fetched = None; closed = c.closes-self-inside.result }) c.args.change)
    (sym c.end.ensures.base)
    (unmade g.D.Disk.honest g.D.Disk.failures g.D.Disk.state g.met.D.Disk.seen_may_stay _ c.args.self.now c.self.view_is c.self.invariant c.requires.open
    c.args.change c.requires.within new done.moments c.in-Err.fault done.calls c.closes-self-inside.ensures done.answer done.stays done.never_full
    c.refusal_of.result c.refusal_of.ensures)
