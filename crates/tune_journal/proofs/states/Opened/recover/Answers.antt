use Rattle.std.proofs.Common.{◌≡◌, ℕ, sym, ◌∙◌, subst, ap, length, arith}
use Rattle.tune_disk.specs.Disk.{DiskState}
use Rattle.tune_journal.specs.Held.{Decided}
use Rattle.tune_journal.specs.Image.{entries, log_of, pages_of}
use Rattle.tune_journal.specs.Inside.Looking.{HasEntries}
use Rattle.tune_journal.specs.Inside.Rest.{IsOpened}
use Rattle.tune_journal.specs.Inside.Seen.{decided}
use Rattle.tune_journal.specs.Pages.{changed_pages}
use Rattle.tune_journal.proofs.Applying.{applying_since, applying_ends, has_entries, entries_are_log}
use Rattle.tune_journal.proofs.Changed.{length-changed}
use Rattle.tune_journal.proofs.Agreeing.{length-pages_of}
use Rattle.tune_journal.proofs.states.Opened.recover.Goals as goal

-- Behind the open gate stands a log of as many entries as are asked for.
record LogAsAsked (m k : ℕ) (s : DiskState) : Type 0 where
  opened : IsOpened m s
  has : HasEntries m k s.seen
  log : entries m k s.seen ≡ log_of s.seen

log_as_asked : {D : Type 0} (honest : D → Type 0) (state : D → DiskState) (disk : D) (m k : ℕ) (seen : Decided D) → decided state disk m ≡ seen
    → IsOpened m (state disk) → (honest seen.disk → length seen.changes ≡ k) → honest disk → LogAsAsked m k (state disk)
log_as_asked honest state disk m k seen is opened asked old =
    let s : DiskState = state disk in
    let size : length (log_of s.seen) ≡ k = ap (λ x. length x.changes) is ∙ asked (subst (λ x. honest x.disk) is old) in
    record { opened = opened; has = has_entries m k s opened size; log = entries_are_log m k s opened size }

pub copy_log-requires : goal.copy_log-requires
copy_log-requires g c =
    let m = c.self.inside.new_count in
    let file = (g.D.Disk.state c.self.inside.disk).seen in
    let size : length c.args.self.pages ≡ m =
    ap (λ s. length s.pages) (sym c.self.view_is) ∙ length-changed (pages_of m file) (log_of file) ∙ length-pages_of m file in
    (c.self.invariant.most, omega (arith, c.requires.few, size))

pub invariant_of-result : goal.invariant_of-result
invariant_of-result g c = record {
  least = c.self.invariant.least;
  most = c.self.invariant.most;
  applied = λ h.
      (let m = c.self.inside.new_count in
      let s : DiskState = g.D.Disk.state c.self.inside.disk in
      let old = c.copy_log.ensures.calls.was_honest h in
      let asked = log_as_asked g.D.Disk.honest g.D.Disk.state c.self.inside.disk m c.args.entries c.args.self c.self.view_is
      (c.self.invariant.opened old) c.requires.entries old in
      applying_ends m s _ _ asked.opened asked.log (c.in-Ok.ensures.writes h asked.has) (c.in-Ok.ensures.count h) (c.in-Ok.ensures.images h asked.has));
}

pub returns-in-Ok-clause-moments : goal.returns-in-Ok-clause-moments
returns-in-Ok-clause-moments g c = rw (← c.self.view_is) (λ h.
    (let m = c.self.inside.new_count in
    let s : DiskState = g.D.Disk.state c.self.inside.disk in
    let old = c.copy_log.ensures.calls.was_honest h in
    let asked = log_as_asked g.D.Disk.honest g.D.Disk.state c.self.inside.disk m c.args.entries c.args.self c.self.view_is
    (c.self.invariant.opened old) c.requires.entries old in
    applying_since m s _ _ asked.opened asked.log c.copy_log.result (c.copy_log.ensures.writes h asked.has)))

pub returns-in-Ok-clause-pages : goal.returns-in-Ok-clause-pages
returns-in-Ok-clause-pages g c = rw (← c.self.view_is) (λ h.
    (let m = c.self.inside.new_count in
    let s : DiskState = g.D.Disk.state c.self.inside.disk in
    let old = c.copy_log.ensures.calls.was_honest h in
    let asked = log_as_asked g.D.Disk.honest g.D.Disk.state c.self.inside.disk m c.args.entries c.args.self c.self.view_is
    (c.self.invariant.opened old) c.requires.entries old in
    c.in-Ok.ensures.images h asked.has ∙ ap (changed_pages (pages_of m s.seen)) asked.log))

pub returns-in-Ok-clause-calls : goal.returns-in-Ok-clause-calls
returns-in-Ok-clause-calls g c = rw (← c.self.view_is) (record {
  was_honest = c.in-Ok.ensures.calls.was_honest;
  ok = c.in-Ok.ensures.calls.ok;
  counted = λ h _. c.in-Ok.ensures.calls.ok;
})

pub returns-in-Err-clause-moments : goal.returns-in-Err-clause-moments
returns-in-Err-clause-moments g c = rw (← c.self.view_is) (λ h.
    (let m = c.self.inside.new_count in
    let s : DiskState = g.D.Disk.state c.self.inside.disk in
    let old = c.copy_log.ensures.calls.was_honest h in
    let asked = log_as_asked g.D.Disk.honest g.D.Disk.state c.self.inside.disk m c.args.entries c.args.self c.self.view_is
    (c.self.invariant.opened old) c.requires.entries old in
    applying_since m s _ _ asked.opened asked.log c.copy_log.result (c.copy_log.ensures.writes h asked.has)))

pub returns-in-Err-clause-calls : goal.returns-in-Err-clause-calls
returns-in-Err-clause-calls g c = rw (← c.self.view_is) (record {
  was_honest = c.in-Err.ensures.calls.was_honest;
  ok = tt;
  counted = λ h _.
      (let m = c.self.inside.new_count in
      let s : DiskState = g.D.Disk.state c.self.inside.disk in
      let old = c.copy_log.ensures.calls.was_honest h in
      let asked = log_as_asked g.D.Disk.honest g.D.Disk.state c.self.inside.disk m c.args.entries c.args.self c.self.view_is
      (c.self.invariant.opened old) c.requires.entries old in
      c.in-Err.ensures.calls.counted h asked.has);
})
