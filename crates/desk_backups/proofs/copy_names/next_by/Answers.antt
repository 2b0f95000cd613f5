use Rattle.std.proofs.Common.{refl, string_bytes}
use Rattle.std.proofs.lemmas.Result.{IfOk-weaker}
use Rattle.desk_backups.proofs.NextLemmas.{by_file, counts_after}
use Rattle.desk_backups.proofs.copy_names.next_by.Goals as goal

pub returns-in-Ok-false-clause-numbers : goal.returns-in-Ok-false-clause-numbers
returns-in-Ok-false-clause-numbers g c = IfOk-weaker c.next_behind.result _ _
    (λ number h. by_file (string_bytes c.args.copy.now) number _ _ c.args.standing c.in-File.is
    (counts_after (string_bytes c.args.copy.now) number _ _ _ c.args.standing (_, c.is_same.ensures.deed, (refl, tt)) h)) c.next_behind.ensures.counts
