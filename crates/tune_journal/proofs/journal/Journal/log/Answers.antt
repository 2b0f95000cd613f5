use Rattle.std.proofs.Common.{◌≡◌, ◌≤◌, ◌∙◌, ap, sym, subst, length, arith, ℕ, List}
use Rattle.tune_disk.specs.Disk.{DiskState}
use Rattle.tune_journal.specs.Image.{pages_of, log_of}
use Rattle.tune_journal.specs.Pages.{changed_pages, NamesAll}
use Rattle.tune_journal.proofs.AfterParts.{logged_after, logged_log, logged_pages, after_same}
use Rattle.tune_journal.proofs.Agreeing.{length-pages_of}
use Rattle.tune_journal.proofs.Changed.{length-changed}
use Rattle.tune_journal.proofs.PartsSince.{logging_since}
use Rattle.tune_journal.proofs.Rests.{rest_leaves}
use Rattle.tune_journal.proofs.journal.Journal.log.Goals as goal

held_length : (n : ℕ) (file : List ℕ) (pages : List (List ℕ)) → pages_of n file ≡ pages → length pages ≡ n
held_length n file pages is = ap length (sym is) ∙ length-pages_of n file

pub invariant_of-result : goal.invariant_of-result
invariant_of-result g c =
    let n = c.self.inside.count in
    let m = c.args.new_count in
    let old : DiskState = g.D.Disk.state c.self.inside.disk in
    let grows : n ≤ m = omega (arith, c.requires.grows, held_length n old.seen c.args.self.pages (ap (λ s. s.pages) c.self.view_is)) in
    let log = c.in-Ok.ensures.log in
    record {
      least = omega (arith, log.some, log.few);
      most = c.requires.most;
      logged = λ h.
          logged_after n m old _ (c.self.invariant.rest (c.in-Ok.ensures.calls.was_honest h)) grows (c.in-Ok.ensures.writes h) c.args.changes.now
          c.requires.most log (c.in-Ok.ensures.entries h) (c.in-Ok.ensures.descriptor h);
    }

pub returns-in-Ok-clause-moments : goal.returns-in-Ok-clause-moments
returns-in-Ok-clause-moments g c =
    let n = c.self.inside.count in
    let m = c.args.new_count in
    let old : DiskState = g.D.Disk.state c.self.inside.disk in
    let grows : n ≤ m = omega (arith, c.requires.grows, held_length n old.seen c.args.self.pages (ap (λ s. s.pages) c.self.view_is)) in
    rw (← c.self.view_is) (λ h.
    logging_since n m old _ c.write_log.result (c.self.invariant.rest (c.write_log.ensures.calls.was_honest h)) grows (c.write_log.ensures.writes h))

pub returns-in-Ok-clause-rest : goal.returns-in-Ok-clause-rest
returns-in-Ok-clause-rest g c = λ h.
    rest_leaves c.self.inside.count (g.D.Disk.state c.write_log.new.disk) ((invariant_of-result g c).logged h).rest

pub returns-in-Ok-clause-pages : goal.returns-in-Ok-clause-pages
returns-in-Ok-clause-pages g c =
    let n = c.self.inside.count in
    let m = c.args.new_count in
    let old : DiskState = g.D.Disk.state c.self.inside.disk in
    let grows : n ≤ m = omega (arith, c.requires.grows, held_length n old.seen c.args.self.pages (ap (λ s. s.pages) c.self.view_is)) in
    rw (← c.self.view_is) (λ h.
    logged_pages n m old _ (c.self.invariant.rest (c.in-Ok.ensures.calls.was_honest h)) grows (c.in-Ok.ensures.writes h))

pub returns-in-Ok-clause-changes : goal.returns-in-Ok-clause-changes
returns-in-Ok-clause-changes g c = λ h.
    logged_log c.args.new_count c.args.changes.now c.requires.most c.in-Ok.ensures.log (g.D.Disk.state c.write_log.new.disk)
    (c.in-Ok.ensures.entries h) (c.in-Ok.ensures.descriptor h)

pub returns-in-Ok-clause-next : goal.returns-in-Ok-clause-next
returns-in-Ok-clause-next g c =
    let n = c.self.inside.count in
    let m = c.args.new_count in
    let old : DiskState = g.D.Disk.state c.self.inside.disk in
    let size = held_length n old.seen c.args.self.pages (ap (λ s. s.pages) c.self.view_is) in
    let grows : n ≤ m = omega (arith, c.requires.grows, size) in
    let names : NamesAll n m c.args.changes.now = subst (λ (k : ℕ). NamesAll k m c.args.changes.now) size c.requires.names in
    rw (← c.self.view_is) (λ h.
    (let new : DiskState = g.D.Disk.state c.write_log.new.disk in
    ap (changed_pages (pages_of m new.seen)) (returns-in-Ok-clause-changes g c h)
    ∙ after_same n m old.seen new.seen c.args.changes.now grows names
    (logged_pages n m old new (c.self.invariant.rest (c.in-Ok.ensures.calls.was_honest h)) grows (c.in-Ok.ensures.writes h))))

pub returns-in-Ok-clause-count : goal.returns-in-Ok-clause-count
returns-in-Ok-clause-count g c =
    let m = c.args.new_count in
    let file = (g.D.Disk.state c.write_log.new.disk).seen in
    length-changed (pages_of m file) (log_of file) ∙ length-pages_of m file

pub returns-in-Err-clause-moments : goal.returns-in-Err-clause-moments
returns-in-Err-clause-moments g c =
    let n = c.self.inside.count in
    let m = c.args.new_count in
    let old : DiskState = g.D.Disk.state c.self.inside.disk in
    let grows : n ≤ m = omega (arith, c.requires.grows, held_length n old.seen c.args.self.pages (ap (λ s. s.pages) c.self.view_is)) in
    rw (← c.self.view_is) (λ h.
    logging_since n m old _ c.write_log.result (c.self.invariant.rest (c.write_log.ensures.calls.was_honest h)) grows (c.write_log.ensures.writes h))
