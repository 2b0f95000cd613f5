use Rattle.std.proofs.Common.{string_bytes}
use Rattle.tune_desk.proofs.ArchiveLemmas.{archive_shared}
use Rattle.tune_desk.specs.ArchiveFiles.{KeepsNone}
use Rattle.desk_copies.proofs.RestoreEnds.{restores_state}
use Rattle.desk_copies.proofs.RestoreLemmas.{shared_at}
use Rattle.desk_copies.proofs.restores.fill_copy.Goals as goal

pub returns-in-Ok-put_copy-clause-restores : goal.returns-in-Ok-put_copy-clause-restores
returns-in-Ok-put_copy-clause-restores g c = λ file was h.
    let shared = archive_shared file (string_bytes c.args.begun.place.target) was _ h _ (string_bytes c.args.asked.now.copy.now) _
    (shared_at _ _ _ _ _ _ c.requires c.share.ensures.deed) in
    let put = c.in-Ok-put_copy.ensures file was shared in
    let copies = rw c.in-Ok.is at c.copy_archive-disk.ensures.copied in
    record {
      made = c.copy_archive-disk.result.disk;
      makes = put.0;
      puts = put.1;
      restores = λ met kept. restores_state _ _ c.in-Ok.copied (copies met kept);
    }

pub returns-in-Err-put_copy-clause-restores : goal.returns-in-Err-put_copy-clause-restores
returns-in-Err-put_copy-clause-restores g c = λ file was h.
    let shared = archive_shared file (string_bytes c.args.begun.place.target) was _ h _ (string_bytes c.args.asked.now.copy.now) _
    (shared_at _ _ _ _ _ _ c.requires c.share.ensures.deed) in
    c.in-Err-put_copy.ensures file was shared

pub returns-in-Err-clause-restores : goal.returns-in-Err-clause-restores
returns-in-Err-clause-restores g c = λ file was h.
    let shared = archive_shared file (string_bytes c.args.begun.place.target) was _ h _ (string_bytes c.args.asked.now.copy.now) _
    (shared_at _ _ _ _ _ _ c.requires c.share.ensures.deed) in
    c.leave_archive.ensures KeepsNone file was shared
