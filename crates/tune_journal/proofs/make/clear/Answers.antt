use Rattle.std.proofs.Common.{rules}
use Rattle.tune_disk.proofs.Moments.{since_sync}
use Rattle.tune_journal.specs.Image.{StandsForNone}
use Rattle.tune_journal.proofs.Making.{cleared_since}
use Rattle.tune_journal.proofs.make.clear.Goals as goal

pub returns-clause-moments : goal.returns-clause-moments
returns-clause-moments g c = λ h rest.
    (let before = c.sync.ensures.calls.was_honest h in
    since_sync StandsForNone c.sync.result (g.D.Disk.state c.args.disk.now) (g.D.Disk.state c.write_at.new.self) (g.D.Disk.state c.sync.new.self)
    (cleared_since _ c.write_at.result _ _ (search rules) rest (c.write_at.ensures.write before)) (g.met.D.Disk.seen_may_stay c.write_at.new.self before)
    (c.sync.ensures.sync h))

pub returns-in_err-write_at-clause-moments : goal.returns-in_err-write_at-clause-moments
returns-in_err-write_at-clause-moments g c = λ h rest. cleared_since _ c.write_at.result _ _ (search rules) rest (c.write_at.ensures.write h)
