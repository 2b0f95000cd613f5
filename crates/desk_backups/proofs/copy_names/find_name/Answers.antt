use Rattle.std.proofs.Common.{string_bytes}
use Rattle.desk_backups.proofs.NextLemmas.{finds_more}
use Rattle.desk_backups.proofs.copy_names.find_name.Goals as goal

pub returns-in-Ok-false-clause-next : goal.returns-in-Ok-false-clause-next
returns-in-Ok-false-clause-next g c =
    finds_more (string_bytes c.args.copy.now) c.in_ok-number.number _ _ _ c.in_ok-number.ensures.next c.stale_sum.ensures
