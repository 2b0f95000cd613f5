use Rattle.std.proofs.Common.{refl, string_bytes}
use Rattle.tune_desk.specs.ArchiveFiles.{KeepsNone}
use Rattle.desk_copies.proofs.RestoreLemmas.{archive_opened, archive_unopened, ends_more}
use Rattle.desk_copies.proofs.restores.put_over.Goals as goal

pub returns-in-Ok : goal.returns-in-Ok
returns-in-Ok g c = λ file was h.
    let target = string_bytes c.args.place.now.target in
    let holds = archive_opened file target was _ _ c.in-Ok.held h c.in-Ok.ensures.deed in
    ends_more file c.args.disk c.put_over_held-outcome.result was _ _ _ (c.put_over_held-outcome.ensures file was holds) c.close.ensures.deed refl

pub returns-in-Err : goal.returns-in-Err
returns-in-Err g c = λ file was h.
    let target = string_bytes c.args.place.now.target in
    c.leave_archive.ensures KeepsNone file was (archive_unopened file target was _ _ c.in-Err.fault h c.in-Err.ensures.deed)
