use Rattle.std.proofs.Common.{◌∙◌, sym}
use Rattle.tune_journal.specs.FileOffsets.{gate_closed}
use Rattle.tune_journal.proofs.AfterParts.{closed_after, closed_pages}
use Rattle.tune_journal.proofs.AheadPages.{none_ahead}
use Rattle.tune_journal.proofs.Agreeing.{gate_written, length-pages_of}
use Rattle.tune_journal.proofs.PartsSince.{closing_since}
use Rattle.tune_journal.proofs.Rests.{rest_leaves}
use Rattle.tune_journal.proofs.states.Applied.close.Goals as goal

pub invariant_of-result : goal.invariant_of-result
invariant_of-result g c = record {
  least = c.self.invariant.least;
  most = c.self.invariant.most;
  rest = λ h.
      closed_after _ _ _ (c.self.invariant.applied (c.in-Ok.ensures.calls.was_honest h)) (c.in-Ok.ensures.writes h)
      (gate_written gate_closed _ _ (c.in-Ok.ensures.written h));
  ahead = none_ahead g.D.Disk.honest g.D.Disk.state c.write_synced.new.disk c.self.inside.new_count c.emptied.result c.emptied.ensures;
}

pub returns-in-Ok-clause-moments : goal.returns-in-Ok-clause-moments
returns-in-Ok-clause-moments g c = rw (← c.self.view_is) (λ h.
    closing_since c.self.inside.new_count _ _ c.write_synced.result (c.self.invariant.applied (c.write_synced.ensures.calls.was_honest h))
    (c.write_synced.ensures.writes h))

pub returns-in-Ok-clause-rest : goal.returns-in-Ok-clause-rest
returns-in-Ok-clause-rest g c = λ h.
    rest_leaves c.self.inside.new_count (g.D.Disk.state c.write_synced.new.disk) ((invariant_of-result g c).rest h)

pub returns-in-Ok-clause-pages : goal.returns-in-Ok-clause-pages
returns-in-Ok-clause-pages g c = rw (← c.self.view_is) (λ h.
    closed_pages _ _ _ (c.self.invariant.applied (c.in-Ok.ensures.calls.was_honest h)) (c.in-Ok.ensures.writes h))

pub returns-in-Ok-clause-count : goal.returns-in-Ok-clause-count
returns-in-Ok-clause-count g c =
    let m = c.self.inside.new_count in
    rw (← c.self.view_is)
    (length-pages_of m (g.D.Disk.state c.write_synced.new.disk).seen ∙ sym (length-pages_of m (g.D.Disk.state c.self.inside.disk).seen))

pub returns-in-Err-clause-moments : goal.returns-in-Err-clause-moments
returns-in-Err-clause-moments g c = rw (← c.self.view_is) (λ h.
    closing_since c.self.inside.new_count _ _ c.write_synced.result (c.self.invariant.applied (c.write_synced.ensures.calls.was_honest h))
    (c.write_synced.ensures.writes h))

pub returns-in-Ok-clause-gate : goal.returns-in-Ok-clause-gate
returns-in-Ok-clause-gate g c = λ h. gate_written gate_closed _ _ (c.in-Ok.ensures.written h)
