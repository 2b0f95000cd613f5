use Rattle.std.proofs.Common.{refl, string_bytes}
use Rattle.desk_backups.proofs.CheckLemmas.{agreed_held, disagreed, unsummed}
use Rattle.desk_backups.proofs.checked_copies.check_disk.Goals as goal

pub returns-in-Ok-compare_sum : goal.returns-in-Ok-compare_sum
returns-in-Ok-compare_sum g c = agreed_held g.D.Disk (string_bytes c.args.copy.now) _ c.args.source _ c.in-Ok.sum c.counts_on.result _ _
    c.sum_of_disk.ensures.disk c.in-Ok.ensures.summed c.in-Ok-compare_sum.ensures c.counts_on.ensures.disk c.counts_on.ensures.told

pub returns-in-Err-compare_sum : goal.returns-in-Err-compare_sum
returns-in-Err-compare_sum g c =
    disagreed g.D.Disk (string_bytes c.args.copy.now) _ c.args.source c.in-Ok.sum _ _ _ _ c.in-Err-compare_sum.ensures refl

pub returns-in-Err : goal.returns-in-Err
returns-in-Err g c = unsummed g.D.Disk (string_bytes c.args.copy.now) c.args.source _ _ _ refl
