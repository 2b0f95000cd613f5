use Rattle.std.proofs.Common.{string_bytes}
use Rattle.std.proofs.lemmas.Result.{IfOk-weaker}
use Rattle.desk_backups.proofs.NextLemmas.{finds_next}
use Rattle.desk_backups.proofs.copy_names.next_number.Goals as goal

pub returns-in-Ok-clause-next : goal.returns-in-Ok-clause-next
returns-in-Ok-clause-next g c = IfOk-weaker c.next_by.result _ _
    (λ number h. finds_next (string_bytes c.args.copy.now) number _ _ _ c.in-Ok.standing c.in-Ok.ensures.deed c.next_by.ensures.quiet h)
    c.next_by.ensures.numbers
