use Rattle.std.proofs.Common.{refl}
use Rattle.tune_disk.proofs.Told.{read_byte}
use Rattle.tune_disk.proofs.file.told.tell_read.Goals as goal

pub loop-i-preserved : goal.loop-i-preserved
loop-i-preserved c =
    let old = c.args.log.now.items in
    read_byte c.args.at c.loop-i.i _ c.args.bytes.now old c.loop-i.log.items c.and.result.items refl c.loop-i.invariant c.and.ensures
