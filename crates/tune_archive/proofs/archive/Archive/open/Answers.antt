use Rattle.std.proofs.Common.{◌≢◌, Result, Err, IfErr, sym, ◌∙◌, ap, subst}
use Rattle.std.proofs.lemmas.Result.{err_from_is_err_and}
use Rattle.tune_disk.specs.Disk.{DiskState}
use Rattle.tune_journal.specs.FileOffsets.{gate_open}
use Rattle.tune_journal.specs.Image.{gate_of}
use Rattle.tune_journal.specs.Refusal.{IsUnwritten}
use Rattle.tune_journal.specs.declared.open_fault.Refused.{Refused}
use Rattle.tune_pages.specs.Kept.{HonestAt, state_at}
use Rattle.tune_archive.specs.OpenedArchive.{disk_left_of, KeepsStates, IsUnopenedArchiveFor}
use Rattle.tune_archive.specs.Shelf.{Shelf}
use Rattle.tune_archive.proofs.OpenedArchives.{opening_keeps_states, pages_refused, archive_refused}
use Rattle.tune_archive.proofs.archive.Archive.open.Goals as goal

pub returns-in_err-opening-clause-moments : goal.returns-in_err-opening-clause-moments
returns-in_err-opening-clause-moments g c =
    let p = err_from_is_err_and c.from_residual.result c.from_residual.ensures.1 in
    let call = c.in_err-opening.ensures in
    let old = g.D.Disk.state c.args.disk in
    subst (λ (r : Result (Shelf g.row.D.Denot) (Refused g.row.D.Denot)).
    HonestAt g.D.Disk.honest (disk_left_of r) → KeepsStates old (state_at g.D.Disk.state (disk_left_of r)))
    (sym (p.1 ∙ ap Err p.2))
    (λ h. opening_keeps_states old (g.D.Disk.state c.in_err-opening.field-0.0.disk) (g.met.D.Disk.seen_may_stay c.args.disk (call.honest h)) (call.leaves h))

pub returns-in_err-opening-clause-untouched : goal.returns-in_err-opening-clause-untouched
returns-in_err-opening-clause-untouched g c =
    let p = err_from_is_err_and c.from_residual.result c.from_residual.ensures.1 in
    let old = g.D.Disk.state c.args.disk in
    subst (λ (r : Result (Shelf g.row.D.Denot) (Refused g.row.D.Denot)).
    HonestAt g.D.Disk.honest (disk_left_of r) → gate_of old.seen ≢ gate_open → IsUnwritten old (state_at g.D.Disk.state (disk_left_of r)))
    (sym (p.1 ∙ ap Err p.2)) (λ h shut. c.in_err-opening.ensures.untouched h shut)

pub returns-in_err-opening-clause-refused : goal.returns-in_err-opening-clause-refused
returns-in_err-opening-clause-refused g c =
    let p = err_from_is_err_and c.from_residual.result c.from_residual.ensures.1 in
    let old = g.D.Disk.state c.args.disk in
    subst (λ (r : Result (Shelf g.row.D.Denot) (Refused g.row.D.Denot)).
    IfErr r (λ refused. g.D.Disk.honest refused.disk → IsUnopenedArchiveFor refused.why old (g.D.Disk.state refused.disk)))
    (sym (p.1 ∙ ap Err p.2))
    (λ h. pages_refused c.in_err-opening.field-0.0.why old (g.D.Disk.state c.in_err-opening.field-0.0.disk) (c.in_err-opening.ensures.refused h))

pub returns-clause-moments : goal.returns-clause-moments
returns-clause-moments g c = λ h.
    let same = c.claimed.ensures.same h in
    let call = c.in_ok-opening.ensures in
    let old = g.D.Disk.state c.args.disk in
    subst (λ (s : DiskState). KeepsStates old s) (sym same.1)
    (opening_keeps_states old (g.D.Disk.state c.in_ok-opening.opening.disk) (g.met.D.Disk.seen_may_stay c.args.disk (call.honest same.0)) (call.leaves same.0))

pub returns-clause-untouched : goal.returns-clause-untouched
returns-clause-untouched g c = λ h shut.
    let same = c.claimed.ensures.same h in
    subst (λ (s : DiskState). IsUnwritten (g.D.Disk.state c.args.disk) s) (sym same.1) (c.in_ok-opening.ensures.untouched same.0 shut)

pub returns-clause-refused : goal.returns-clause-refused
returns-clause-refused g c =
    archive_refused g.D.Disk.honest g.D.Disk.state c.in_ok-opening.opening.disk c.in_ok-opening.opening.pages (g.D.Disk.state c.args.disk)
    c.claimed.result c.claimed.ensures.same
    (λ h. record {
      stands = c.in_ok-opening.ensures.pages h;
      only = c.in_ok-opening.ensures.only h;
      synced = c.in_ok-opening.ensures.synced h;
      rest = c.in_ok-opening.ensures.rest h;
    }) c.claimed.ensures.refused
