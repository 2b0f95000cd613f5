use Rattle.std.proofs.Common.{ℕ, subst}
use Rattle.tune_disk.specs.Disk.{CountsFailure}
use Rattle.tune_disk.specs.FileDisk.{file_history}
use Rattle.tune_disk.specs.FileTold.{at_opening}
use Rattle.tune_disk.proofs.Told.{write_more, write_told, same_answer}
use Rattle.tune_disk.proofs.file.FileDiskDisk.write_at.Goals as goal

pub returns-clause-calls : goal.returns-clause-calls
returns-clause-calls g c =
    let h = file_history g.H.FileHistory.history c.args.self.now in
    let done = c.write_all-done in
    record {
      was_honest = λ honest. record {
        opened = honest.opened;
        told = write_more done.result c.args.at c.args.bytes.now c.args.self.now.log.items done.new.log.items
            done.ensures.ok done.ensures.err h (at_opening h) honest.told;
      };
      counted = subst (λ (n : ℕ). CountsFailure c.counted.result n c.counted.new.faults.count) c.in_ok-go_on.ensures.counted c.counted.ensures.counted;
    }

pub returns-clause-write : goal.returns-clause-write
returns-clause-write g c = λ honest.
    (let h = file_history g.H.FileHistory.history c.args.self.now in
    let done = c.write_all-done in
    write_told h (at_opening h) done.result c.counted.result c.args.at c.args.bytes.now
    c.args.self.now.log.items done.new.log.items done.ensures.ok done.ensures.err
    (same_answer done.result c.counted.result c.counted.ensures.same) honest.told)
