use Rattle.std.proofs.Common.{◌≡◌, ◌<◌, ◌∙◌, sym, ap, subst, ℕ, List, All, length, arith}
use Rattle.tune_disk.specs.Disk.{DiskState}
use Rattle.tune_journal.specs.Image.{log_of, pages_of}
use Rattle.tune_journal.specs.Pages.{changed_pages}
use Rattle.tune_journal.proofs.Applying.{applying_since, applying_ends}
use Rattle.tune_journal.proofs.Changed.{length-changed}
use Rattle.tune_journal.proofs.Agreeing.{length-pages_of}
use Rattle.tune_journal.proofs.Standing.{log_same}
use Rattle.tune_journal.proofs.Rests.{applied_leaves}
use Rattle.tune_journal.proofs.states.Opened.apply.Goals as goal

length_decided : (m : ℕ) (file : List ℕ) → length (changed_pages (pages_of m file) (log_of file)) ≡ m
length_decided m file = length-changed (pages_of m file) (log_of file) ∙ length-pages_of m file

pub write_pages-requires : goal.write_pages-requires
write_pages-requires g c =
    let m = c.self.inside.new_count in
    let size : length c.args.self.pages ≡ m =
    ap (λ s. length s.pages) (sym c.self.view_is) ∙ length_decided m (g.D.Disk.state c.self.inside.disk).seen in
    λ k d lt. omega (arith, c.requires.below k d lt, size, c.self.invariant.most)

pub invariant_of-result : goal.invariant_of-result
invariant_of-result g c = record {
  least = c.self.invariant.least;
  most = c.self.invariant.most;
  applied = λ h.
      (let old = c.in-Ok.ensures.calls.was_honest h in
      let m = c.self.inside.new_count in
      let s : DiskState = g.D.Disk.state c.self.inside.disk in
      let opened = c.self.invariant.opened old in
      let log : c.args.changes.now ≡ log_of s.seen =
      c.requires.log (subst (λ x. g.D.Disk.honest x.disk) c.self.view_is old) ∙ ap (λ x. x.changes) (sym c.self.view_is) in
      let below = subst (All (λ (e : ℕ × List ℕ). e.0 < m)) (sym (log ∙ log_same m s.seen opened.new_count)) opened.log.log.below in
      applying_ends m s _ c.args.changes.now opened log (c.in-Ok.ensures.writes h) (c.in-Ok.ensures.count h)
      (c.in-Ok.ensures.images h m opened.log.count.long below));
}

pub returns-in-Ok-clause-moments : goal.returns-in-Ok-clause-moments
returns-in-Ok-clause-moments g c = rw (← c.self.view_is) (λ h.
    (let old = c.write_pages.ensures.calls.was_honest h in
    let s : DiskState = g.D.Disk.state c.self.inside.disk in
    let log : c.args.changes.now ≡ log_of s.seen =
    c.requires.log (subst (λ x. g.D.Disk.honest x.disk) c.self.view_is old) ∙ ap (λ x. x.changes) (sym c.self.view_is) in
    applying_since c.self.inside.new_count s _ c.args.changes.now (c.self.invariant.opened old) log c.write_pages.result
    (c.write_pages.ensures.writes h)))

pub returns-in-Ok-clause-rest : goal.returns-in-Ok-clause-rest
returns-in-Ok-clause-rest g c = λ h.
    applied_leaves c.self.inside.new_count (g.D.Disk.state c.write_pages.new.disk) ((invariant_of-result g c).applied h)

pub returns-in-Ok-clause-count : goal.returns-in-Ok-clause-count
returns-in-Ok-clause-count g c =
    let m = c.self.inside.new_count in
    rw (← c.self.view_is) (length-pages_of m (g.D.Disk.state c.write_pages.new.disk).seen
    ∙ sym (length_decided m (g.D.Disk.state c.self.inside.disk).seen))

pub returns-in-Err-clause-moments : goal.returns-in-Err-clause-moments
returns-in-Err-clause-moments g c = rw (← c.self.view_is) (λ h.
    (let old = c.write_pages.ensures.calls.was_honest h in
    let s : DiskState = g.D.Disk.state c.self.inside.disk in
    let log : c.args.changes.now ≡ log_of s.seen =
    c.requires.log (subst (λ x. g.D.Disk.honest x.disk) c.self.view_is old) ∙ ap (λ x. x.changes) (sym c.self.view_is) in
    applying_since c.self.inside.new_count s _ c.args.changes.now (c.self.invariant.opened old) log c.write_pages.result
    (c.write_pages.ensures.writes h)))
