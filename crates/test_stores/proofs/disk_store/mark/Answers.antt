use Rattle.test_stores.proofs.MarkLemmas.{marks_write, marks_sync}
use Rattle.test_stores.proofs.disk_store.mark.Goals as goal

pub returns-in_err-write_at-clause-marks : goal.returns-in_err-write_at-clause-marks
returns-in_err-write_at-clause-marks g c = λ honest. marks_write c.write_at.result _ _ (c.write_at.ensures.write honest)

pub returns-clause-marks : goal.returns-clause-marks
returns-clause-marks g c = λ honest.
    let honest_mid = c.sync.ensures.calls.was_honest honest in
    let written = marks_write c.write_at.result _ _ (c.write_at.ensures.write honest_mid) in
    marks_sync c.sync.result _ _ _ written (g.met.D.Disk.seen_may_stay c.write_at.new.self honest_mid) (c.sync.ensures.sync honest)
