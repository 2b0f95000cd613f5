use Rattle.std.proofs.Common.{string_bytes}
use Rattle.desk_copies.proofs.restores.restore_from.Goals as goal

pub returns-in-Ok-clause-restores : goal.returns-in-Ok-clause-restores
returns-in-Ok-clause-restores g c = c.fill_copy.ensures.restores (string_bytes c.args.asked.now.file.now) _ c.in-Ok.ensures.begun
