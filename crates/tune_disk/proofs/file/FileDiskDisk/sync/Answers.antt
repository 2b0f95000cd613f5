use Rattle.std.proofs.Common.{ℕ, subst}
use Rattle.tune_disk.specs.Disk.{CountsFailure}
use Rattle.tune_disk.specs.FileDisk.{file_history}
use Rattle.tune_disk.specs.FileTold.{at_opening}
use Rattle.tune_disk.proofs.Told.{sync_more, sync_told, same_answer}
use Rattle.tune_disk.proofs.FileStays.{telling_stays}
use Rattle.tune_disk.proofs.file.FileDiskDisk.sync.Goals as goal

pub invariant_of-self-2 : goal.invariant_of-self-2
invariant_of-self-2 g c = record { stays = telling_stays c.make_stable-done.new.log.items }

pub returns-clause-calls : goal.returns-clause-calls
returns-clause-calls g c =
    let h = file_history g.H.FileHistory.history c.args.self.now in
    let done = c.make_stable-done in
    record {
      was_honest = λ honest. record {
        opened = honest.opened;
        told = sync_more done.result c.args.self.now.log.items done.new.log.items
            done.ensures.ok done.ensures.err h (at_opening h) honest.told;
      };
      counted = subst (λ (n : ℕ). CountsFailure c.counted.result n c.counted.new.faults.count) c.in_ok-go_on.ensures.counted c.counted.ensures.counted;
    }

pub returns-clause-sync : goal.returns-clause-sync
returns-clause-sync g c = λ _.
    (let h = file_history g.H.FileHistory.history c.args.self.now in
    let done = c.make_stable-done in
    sync_told h (at_opening h) done.result c.counted.result
    c.args.self.now.log.items done.new.log.items done.ensures.ok done.ensures.err
    (same_answer done.result c.counted.result c.counted.ensures.same))
