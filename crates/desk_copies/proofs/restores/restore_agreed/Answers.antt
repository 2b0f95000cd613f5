use Rattle.std.proofs.Common.{string_bytes}
use Rattle.desk_copies.proofs.RestoreEnds.{agreed_then, unagreed}
use Rattle.desk_copies.proofs.restores.restore_agreed.Goals as goal

pub returns-in-Ok-compare_sum-clause-restores : goal.returns-in-Ok-compare_sum-clause-restores
returns-in-Ok-compare_sum-clause-restores g c = agreed_then g.D.Disk (string_bytes c.args.asked.now.file.now)
    (string_bytes c.args.asked.now.copy.now) _ _ _ _ c.in-Ok.sum
    c.restore_from.result _ _ _ c.sum_of_disk.ensures.disk c.in-Ok.ensures.summed c.in-Ok-compare_sum.ensures c.restore_from.ensures.source
    c.restore_from.ensures.restores

pub returns-in-Err-compare_sum-clause-restores : goal.returns-in-Err-compare_sum-clause-restores
returns-in-Err-compare_sum-clause-restores g c =
    unagreed g.D.Disk (string_bytes c.args.asked.now.file.now) (string_bytes c.args.asked.now.copy.now) _ c.in-Ok.sum _ _ c.in-Err-compare_sum.ensures
