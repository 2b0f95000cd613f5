use Rattle.std.proofs.Common.{string_bytes}
use Rattle.desk_backups.proofs.CopyLemmas.{named_backs, named_files, unnamed, unrested}
use Rattle.desk_backups.proofs.backups.back_up.Goals as goal

pub returns-in-Ok-copy_as-clause-files : goal.returns-in-Ok-copy_as-clause-files
returns-in-Ok-copy_as-clause-files g c = named_files g.D.Disk (string_bytes c.args.asked.now.file.now)
    (string_bytes c.args.asked.now.copy.now) c.args.asked.now.keep
    (string_bytes c.in-Ok-find_name.named.path) c.in-Ok-find_name.named.number _ _ _ _ c.in-Ok-find_name.ensures.named c.bring_to_rest.ensures
    c.find_name.ensures.quiet c.copy_as.ensures.spares

pub returns-in-Ok-copy_as-clause-backs_up : goal.returns-in-Ok-copy_as-clause-backs_up
returns-in-Ok-copy_as-clause-backs_up g c = named_backs g.D.Disk (string_bytes c.args.asked.now.file.now)
    (string_bytes c.args.asked.now.copy.now) c.args.asked.now.keep
    (string_bytes c.in-Ok-find_name.named.path) c.in-Ok-find_name.named.number _ _ _ _ c.in-Ok-find_name.ensures.named c.bring_to_rest.ensures
    c.in-Ok-find_name.ensures.next c.in-Ok-copy_as.ensures.copies

pub returns-in-Err-copy_as-clause-files : goal.returns-in-Err-copy_as-clause-files
returns-in-Err-copy_as-clause-files g c = named_files g.D.Disk (string_bytes c.args.asked.now.file.now)
    (string_bytes c.args.asked.now.copy.now) c.args.asked.now.keep
    (string_bytes c.in-Ok-find_name.named.path) c.in-Ok-find_name.named.number _ _ _ _ c.in-Ok-find_name.ensures.named c.bring_to_rest.ensures
    c.find_name.ensures.quiet c.copy_as.ensures.spares

pub returns-in-Err-find_name-clause-files : goal.returns-in-Err-find_name-clause-files
returns-in-Err-find_name-clause-files g c =
    unnamed g.D.Disk (string_bytes c.args.asked.now.file.now) (string_bytes c.args.asked.now.copy.now) c.args.asked.now.keep _ _ _
    c.bring_to_rest.ensures c.find_name.ensures.quiet

pub returns-in-Err-clause-files : goal.returns-in-Err-clause-files
returns-in-Err-clause-files g c =
    unrested g.D.Disk (string_bytes c.args.asked.now.file.now) (string_bytes c.args.asked.now.copy.now) c.args.asked.now.keep _ _ c.bring_to_rest.ensures
