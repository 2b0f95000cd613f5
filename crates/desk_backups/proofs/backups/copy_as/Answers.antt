use Rattle.std.proofs.Common.{refl, string_bytes}
use Rattle.std.proofs.lemmas.Result.{IfOk-weaker}
use Rattle.desk_backups.proofs.CopyLemmas.{summed_after, uncopied, whole_after}
use Rattle.desk_backups.proofs.backups.copy_as.Goals as goal

pub returns-in-Ok-clause-spares : goal.returns-in-Ok-clause-spares
returns-in-Ok-clause-spares g c =
    summed_after g.D.Disk (string_bytes c.args.asked.now.file.now) (string_bytes c.args.named.now.path) _ c.in-Ok.copied _ _ _
    c.in-Ok.ensures c.sum_copy.ensures.spares

pub returns-in-Ok-clause-copies : goal.returns-in-Ok-clause-copies
returns-in-Ok-clause-copies g c = IfOk-weaker c.sum_copy.result _ _
    (λ _ k. whole_after g.D.Disk (string_bytes c.args.asked.now.file.now) (string_bytes c.args.named.now.path) _ c.in-Ok.copied c.in-Ok.copied.sum _ _ _
    c.in-Ok.ensures refl k) c.sum_copy.ensures.sums

pub returns-in-Err-clause-spares : goal.returns-in-Err-clause-spares
returns-in-Err-clause-spares g c =
    uncopied g.D.Disk (string_bytes c.args.asked.now.file.now) (string_bytes c.args.named.now.path) _ _ _ c.in-Err.ensures
