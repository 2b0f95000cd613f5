use Rattle.std.proofs.Common.{ℕ, subst}
use Rattle.tune_disk.specs.Disk.{CountsFailure}
use Rattle.tune_disk.specs.FileDisk.{file_history}
use Rattle.tune_disk.specs.Inside.ToldMore.{IsToldMore}
use Rattle.tune_disk.specs.FileTold.{at_opening}
use Rattle.tune_disk.proofs.Kept.{holds_then}
use Rattle.tune_disk.proofs.Told.{length_more, length_told}
use Rattle.tune_disk.proofs.FileStays.{telling_stays}
use Rattle.tune_disk.proofs.file.FileDiskDisk.len.Goals as goal

pub invariant_of-self-2 : goal.invariant_of-self-2
invariant_of-self-2 g c = record { stays = telling_stays c.measure-size.new.log.items }

pub returns-clause-len : goal.returns-clause-len
returns-clause-len g c =
    let h = file_history g.H.FileHistory.history c.args.self.now in
    holds_then c.counted.result _ _
    (length_told h (at_opening h) c.measure-size.result c.counted.result
    c.args.self.now.log.items c.measure-size.new.log.items
    c.measure-size.ensures.ok c.counted.ensures.same)
    (λ n is honest. is honest.told)

pub returns-clause-looks : goal.returns-clause-looks
returns-clause-looks g c =
    let h = file_history g.H.FileHistory.history c.args.self.now in
    let old = c.args.self.now.log.items in
    let new = c.measure-size.new.log.items in
    let size = c.measure-size in
    let more : IsToldMore old new = length_more size.result old new size.ensures.ok size.ensures.err in
    record {
      calls = record {
        was_honest = λ honest. record { opened = honest.opened; told = more.fits h (at_opening h) honest.told };
        counted = subst (λ (n : ℕ). CountsFailure c.counted.result n c.counted.new.faults.count) c.in_ok-go_on.ensures.counted c.counted.ensures.counted;
      };
      same = λ _. more.state h (at_opening h);
    }
