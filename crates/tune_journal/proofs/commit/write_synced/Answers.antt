use Rattle.std.proofs.lemmas.Result.{err_from_is_err_and}
use Rattle.tune_disk.proofs.Moments.{spares_write}
use Rattle.tune_journal.specs.Inside.Phases.{IsOutside}
use Rattle.tune_journal.proofs.CallRuns.{write_then_sync}
use Rattle.tune_journal.proofs.commit.write_synced.Goals as goal

pub returns-clause-writes : goal.returns-clause-writes
returns-clause-writes g c =
    λ h. write_then_sync _ _ c.write_at.result _ _ _ _ _ c.in_ok-write_at.was (c.write_at.ensures.write (c.sync.ensures.calls.was_honest h))
    (c.sync.ensures.sync h)

pub returns-in_err-write_at-clause-writes : goal.returns-in_err-write_at-clause-writes
returns-in_err-write_at-clause-writes g c =
    let p = err_from_is_err_and c.from_residual.result c.from_residual.ensures.1 in
    rw p.1 (λ h. spares_write (IsOutside c.args.at _) _ _ c.write_at.result _ _ (c.write_at.ensures.write h) (λ i out. out))
