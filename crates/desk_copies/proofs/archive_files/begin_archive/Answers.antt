use Rattle.std.proofs.Common.{string_bytes}
use Rattle.desk_copies.proofs.BeginningLemmas.{followed_first, unfollowed_none}
use Rattle.desk_copies.proofs.archive_files.begin_archive.Goals as goal

pub returns-in-Ok-begin_at-clause-begun : goal.returns-in-Ok-begin_at-clause-begun
returns-in-Ok-begin_at-clause-begun g c =
    let file = string_bytes c.args.file.now in
    c.in-Ok-begin_at.ensures.begins file _ (followed_first file (string_bytes c.in-Ok.target) _ _ c.in-Ok.ensures.deed)

pub returns-in-Err-begin_at-clause-begun : goal.returns-in-Err-begin_at-clause-begun
returns-in-Err-begin_at-clause-begun g c =
    let file = string_bytes c.args.file.now in
    c.in-Err-begin_at.ensures.begins file _ (followed_first file (string_bytes c.in-Ok.target) _ _ c.in-Ok.ensures.deed)

pub returns-in-Err-clause-begun : goal.returns-in-Err-clause-begun
returns-in-Err-clause-begun g c = unfollowed_none (string_bytes c.args.file.now) c.in-Err.fault _ _ c.in-Err.ensures.deed
