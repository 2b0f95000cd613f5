use Rattle.std.proofs.Common.{string_bytes}
use Rattle.desk_backups.specs.CopyNames.{copy_places}
use Rattle.desk_backups.proofs.file_copies.copy_from.Goals as goal

pub returns-in-Ok-clause-copies : goal.returns-in-Ok-clause-copies
returns-in-Ok-clause-copies g c =
    c.fill_copy.ensures.copies (copy_places (string_bytes c.args.file.now) (string_bytes c.args.path.now)) _ c.in-Ok.ensures.begun
