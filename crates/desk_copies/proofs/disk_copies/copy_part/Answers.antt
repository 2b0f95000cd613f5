use Rattle.std.proofs.Common.{◌≡◌, length, arith}
use Rattle.desk_copies.proofs.CopyLemmas.{part_copied, part_summed}
use Rattle.desk_copies.proofs.disk_copies.copy_part.Goals as goal

pub returns-in-Ok-clause-copied : goal.returns-in-Ok-clause-copied
returns-in-Ok-clause-copied g c =
    let size : length c.copy_by.new.room ≡ c.args.part.size = grind (arith, c.copy_by.ensures.size, c.as_mut_slice.ensures, c.in_ok-room.ensures.len) in
    part_copied g.D.Disk.honest g.D.Disk.state _ _ _ _ c.args.sum.now c.copy_by.new.sum c.args.part.at c.args.part.size c.copy_by.new.room size
    c.in-Ok.ensures.shown
    c.in-Ok.ensures.put

pub returns-in-Ok-clause-summed : goal.returns-in-Ok-clause-summed
returns-in-Ok-clause-summed g c =
    let size : length c.copy_by.new.room ≡ c.args.part.size = grind (arith, c.copy_by.ensures.size, c.as_mut_slice.ensures, c.in_ok-room.ensures.len) in
    part_summed g.D.Disk.honest g.D.Disk.state _ _ c.args.sum.now c.copy_by.new.sum c.args.part.at c.args.part.size c.copy_by.new.room size
    c.in-Ok.ensures.shown
    c.in-Ok.ensures.summed
