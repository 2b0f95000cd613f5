use Rattle.std.proofs.Common.{◌≡◌, [], ◌∷◌, Result, Err, sym, ◌∙◌, ap, subst}
use Rattle.std.proofs.lemmas.Result.{err_from_is_err_and}
use Rattle.tune_disk.specs.Stops.{LeavesOnly, SinceThen}
use Rattle.tune_journal.specs.Image.{StandsFor}
use Rattle.tune_journal.specs.Making.{IsEmptyFile}
use Rattle.tune_journal.specs.declared.open_fault.Refused.{Refused}
use Rattle.tune_pages.specs.Kept.{Kept, HonestAt, state_at, failures_at}
use Rattle.tune_pages.specs.OpenedPages.{only_root}
use Rattle.tune_store.specs.State.{empty_of}
use Rattle.tune_store.specs.declared.layout.Layout.TheVariants.{Two}
use Rattle.tune_archive.specs.OpenedArchive.{disk_left_of, StandsForNoneOrEmpty}
use Rattle.tune_archive.specs.Shelf.{Shelf, state_on}
use Rattle.tune_archive.proofs.OpenedArchives.{making_keeps, made_shelf, made_state, made_sound, root_of_none}
use Rattle.tune_archive.proofs.archive.Archive.make.Goals as goal

pub returns-in_err-pages-clause-moments : goal.returns-in_err-pages-clause-moments
returns-in_err-pages-clause-moments g c =
    let p = err_from_is_err_and c.from_residual.result c.from_residual.ensures.1 in
    let call = c.in_err-pages.ensures in
    let old = g.D.Disk.state c.args.disk in
    subst (λ (r : Result (Shelf g.row.D.Denot) (Refused g.row.D.Denot)). HonestAt g.D.Disk.honest (disk_left_of r) → LeavesOnly old.now IsEmptyFile
    → SinceThen old (state_at g.D.Disk.state (disk_left_of r)) StandsForNoneOrEmpty)
    (sym (p.1 ∙ ap Err p.2))
    (λ h empty. making_keeps c.write_root-root.result.bytes old (g.D.Disk.state c.in_err-pages.field-0.0.disk)
    (root_of_none _ _ c.no_firsts.ensures c.write_root-root.ensures.root) (call.moments h empty))

pub over-requires : goal.over-requires
over-requires g c =
    let call = c.in_ok-pages.ensures in
    made_shelf g.D.Disk.honest g.D.Disk.state g.met.D.Disk.seen_may_stay c.in_ok-pages.pages c.write_root-root.result.bytes c.nothing.result
    call.pages (call.used ∙ ap only_root c.most_pages-limit.ensures.most) call.limit.1
    (root_of_none _ _ c.no_firsts.ensures c.write_root-root.ensures.root) call.rest
    (record {
      layout = c.nothing.ensures.layout;
      rows = c.nothing.ensures.rows;
      sets = c.nothing.ensures.sets;
      numbers = c.nothing.ensures.numbers;
      searches = c.nothing.ensures.searches;
      firsts = c.nothing.ensures.firsts;
    })

pub returns-clause-honest : goal.returns-clause-honest
returns-clause-honest g c = λ h.
    c.in_ok-pages.ensures.honest (subst (λ (k : Kept g.row.D.Denot). HonestAt g.D.Disk.honest k.disk) c.over.ensures.pages h)

pub returns-clause-moments : goal.returns-clause-moments
returns-clause-moments g c =
    let call = c.in_ok-pages.ensures in
    let old = g.D.Disk.state c.args.disk in
    subst (λ (k : Kept g.row.D.Denot). HonestAt g.D.Disk.honest k.disk → LeavesOnly old.now IsEmptyFile
    → SinceThen old (state_at g.D.Disk.state k.disk) StandsForNoneOrEmpty)
    (sym c.over.ensures.pages)
    (λ h empty. making_keeps c.write_root-root.result.bytes old (state_at g.D.Disk.state c.in_ok-pages.pages.disk)
    (root_of_none _ _ c.no_firsts.ensures c.write_root-root.ensures.root) (call.moments h empty))

pub returns-clause-state : goal.returns-clause-state
returns-clause-state g c =
    subst (λ (k : Kept g.row.D.Denot). HonestAt g.D.Disk.honest k.disk → state_on g.D.Disk.state k.disk ≡ empty_of Two) (sym c.over.ensures.pages)
    (λ h. made_state g.D.Disk.honest g.D.Disk.state g.met.D.Disk.seen_may_stay c.in_ok-pages.pages.disk c.write_root-root.result.bytes
    (root_of_none _ _ c.no_firsts.ensures c.write_root-root.ensures.root) h (c.in_ok-pages.ensures.rest h))

pub returns-clause-sound : goal.returns-clause-sound
returns-clause-sound g c =
    made_sound g.D.Disk.honest g.D.Disk.state g.met.D.Disk.seen_may_stay c.over.result c.write_root-root.result.bytes
    (root_of_none _ _ c.no_firsts.ensures c.write_root-root.ensures.root)
    (subst (λ (k : Kept g.row.D.Denot). HonestAt g.D.Disk.honest k.disk
    → LeavesOnly (state_at g.D.Disk.state k.disk).now (StandsFor (c.write_root-root.result.bytes ∷ [])))
    (sym c.over.ensures.pages) c.in_ok-pages.ensures.rest)

pub returns-clause-empty : goal.returns-clause-empty
returns-clause-empty g c =
    subst (λ (k : Kept g.row.D.Denot). HonestAt g.D.Disk.honest k.disk → (g.D.Disk.state c.args.disk).seen ≡ []) (sym c.over.ensures.pages)
    c.in_ok-pages.ensures.empty

pub returns-clause-failures : goal.returns-clause-failures
returns-clause-failures g c =
    ap (λ (k : Kept g.row.D.Denot). failures_at g.D.Disk.failures k.disk) c.over.ensures.pages ∙ c.in_ok-pages.ensures.failures
