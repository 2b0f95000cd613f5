use Rattle.std.proofs.Common.{◌≡◌, ◌∙◌, sym, ℕ, List, length}
use Rattle.tune_journal.specs.Image.{log_of, pages_of}
use Rattle.tune_journal.specs.FileOffsets.{gate_open}
use Rattle.tune_journal.specs.Pages.{changed_pages}
use Rattle.tune_journal.proofs.AfterParts.{opened_after, opened_log, opened_pages}
use Rattle.tune_journal.proofs.Agreeing.{gate_written, length-pages_of}
use Rattle.tune_journal.proofs.Changed.{length-changed}
use Rattle.tune_journal.proofs.PartsSince.{opening_since}
use Rattle.tune_journal.proofs.Rests.{opened_leaves}
use Rattle.tune_journal.proofs.states.Logged.open_gate.Goals as goal

length_next : (m : ℕ) (file : List ℕ) → length (changed_pages (pages_of m file) (log_of file)) ≡ m
length_next m file = length-changed (pages_of m file) (log_of file) ∙ length-pages_of m file

pub invariant_of-result : goal.invariant_of-result
invariant_of-result g c = record {
  least = c.self.invariant.least;
  most = c.self.invariant.most;
  opened = λ h.
      opened_after _ _ _ _ (c.self.invariant.logged (c.in-Ok.ensures.calls.was_honest h)) (c.in-Ok.ensures.writes h)
      (gate_written gate_open _ _ (c.in-Ok.ensures.written h));
}

pub returns-in-Ok-clause-moments : goal.returns-in-Ok-clause-moments
returns-in-Ok-clause-moments g c = rw (← c.self.view_is) (λ h.
    opening_since c.self.inside.count c.self.inside.new_count _ _ c.write_synced.result (c.self.invariant.logged (c.write_synced.ensures.calls.was_honest h))
    (c.write_synced.ensures.writes h))

pub returns-in-Ok-clause-rest : goal.returns-in-Ok-clause-rest
returns-in-Ok-clause-rest g c = λ h.
    opened_leaves c.self.inside.new_count (g.D.Disk.state c.write_synced.new.disk) ((invariant_of-result g c).opened h)

pub returns-in-Ok-clause-pages : goal.returns-in-Ok-clause-pages
returns-in-Ok-clause-pages g c = rw (← c.self.view_is) (λ h.
    (let logged = c.self.invariant.logged (c.in-Ok.ensures.calls.was_honest h) in
    let pages = opened_pages _ _ _ _ logged (c.in-Ok.ensures.writes h) in
    let log = opened_log _ _ _ _ logged (c.in-Ok.ensures.writes h) in
    (λ t. changed_pages (pages t) (log t))))

pub returns-in-Ok-clause-changes : goal.returns-in-Ok-clause-changes
returns-in-Ok-clause-changes g c = rw (← c.self.view_is) (λ h.
    opened_log _ _ _ _ (c.self.invariant.logged (c.in-Ok.ensures.calls.was_honest h)) (c.in-Ok.ensures.writes h))

pub returns-in-Ok-clause-count : goal.returns-in-Ok-clause-count
returns-in-Ok-clause-count g c =
    let m = c.self.inside.new_count in
    rw (← c.self.view_is)
    (length_next m (g.D.Disk.state c.write_synced.new.disk).seen ∙ sym (length_next m (g.D.Disk.state c.self.inside.disk).seen))

pub returns-in-Err-clause-moments : goal.returns-in-Err-clause-moments
returns-in-Err-clause-moments g c = rw (← c.self.view_is) (λ h.
    opening_since c.self.inside.count c.self.inside.new_count _ _ c.write_synced.result (c.self.invariant.logged (c.write_synced.ensures.calls.was_honest h))
    (c.write_synced.ensures.writes h))
