use Rattle.std.proofs.Common.{string_bytes}
use Rattle.desk_backups.proofs.NextLemmas.{no_folder_told}
use Rattle.desk_backups.proofs.copy_names.numbers_there.Goals as goal

pub returns-in-Err-Missing-clause-told : goal.returns-in-Err-Missing-clause-told
returns-in-Err-Missing-clause-told g c =
    let missing = c.in-Err-Missing.field-0-is in
    no_folder_told (string_bytes c.in-Ok.folder) (string_bytes c.args.copy.now) c.new.result.items c.in-Ok.ensures _ _
    (rw missing at c.in-Err-Missing.ensures.deed) c.new.ensures.items
