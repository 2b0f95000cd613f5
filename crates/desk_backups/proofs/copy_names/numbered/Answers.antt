use Rattle.std.proofs.Common.{string_bytes}
use Rattle.desk_backups.proofs.NameLemmas.{numbered_some}
use Rattle.desk_backups.proofs.copy_names.numbered.Goals as goal

pub returns-else-number-eq0 : goal.returns-else-number-eq0
returns-else-number-eq0 c = rw (numbered_some (string_bytes c.args.copy.now) c.args.number c.if-number-eq0.false) c.format.ensures.ok
