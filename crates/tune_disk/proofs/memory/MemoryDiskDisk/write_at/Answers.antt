use Rattle.tune_disk.proofs.Kept.{write_kept, write_done}
use Rattle.tune_disk.proofs.Stays.{state_stays}
use Rattle.tune_disk.proofs.memory.MemoryDiskDisk.write_at.Goals as goal

pub invariant_of-self : goal.invariant_of-self
invariant_of-self c =
    let done = c.write_and_record-done.ensures in
    record {
      replays = write_kept _ _ _ _ c.args.self.now.replays _ _ _ _ done.content done.content_err done.records done.records_err;
      stays = state_stays c.args.self.now.first.items c.write_and_record-done.new.records.items;
    }

pub returns-clause-write : goal.returns-clause-write
returns-clause-write c =
    let disk = c.args.self.now in
    let done = c.write_and_record-done in
    write_done disk.first.items disk.content.items disk.records.items _ disk.replays c.args.at c.args.bytes.now done.new.content.items _ _
    c.count.ensures.same done.ensures.records done.ensures.records_err
