use Rattle.std.proofs.Common.{string_bytes}
use Rattle.std.proofs.lemmas.Result.{IfOk-weaker}
use Rattle.desk_backups.proofs.NameLemmas.{told_line}
use Rattle.desk_backups.proofs.sums_beside.sum_line.Goals as goal

pub returns : goal.returns
returns c = IfOk-weaker c.format.result _ _
    (λ line e. told_line c.args.sum.now (string_bytes c.args.path.now) (string_bytes c.in_ok-digits.digits) c.name_of-name.result.now (string_bytes line)
    c.in_ok-digits.ensures c.name_of-name.ensures e) c.format.ensures.ok
