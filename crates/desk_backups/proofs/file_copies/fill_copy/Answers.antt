use Rattle.std.proofs.Common.{Err, string_bytes}
use Rattle.desk_backups.proofs.CopyLemmas.{leaving_spares, naming_makes, naming_spares}
use Rattle.desk_backups.proofs.file_copies.fill_copy.Goals as goal

pub returns-in-Ok-finish_result-clause-copies : goal.returns-in-Ok-finish_result-clause-copies
returns-in-Ok-finish_result-clause-copies g c = λ places was h.
    let copies = rw c.in-Ok.is at c.copy_archive-disk.ensures.copied in
    naming_makes places (string_bytes c.args.begun.place.target) (string_bytes c.args.begun.place.new) (string_bytes c.args.file.now)
    c.args.begun.place.over c.copy_archive-disk.result.disk _ was _ _ _ c.requires h c.share.ensures.deed c.close.ensures.deed g.D.Disk
    (record { source = c.args.source.now; after = c.copy_archive-disk.new.from }) c.in-Ok.copied _ c.in-Ok-finish_result.ensures copies

pub returns-in-Err-finish_result-clause-copies : goal.returns-in-Err-finish_result-clause-copies
returns-in-Err-finish_result-clause-copies g c = λ places was h.
    naming_spares places (string_bytes c.args.begun.place.target) (string_bytes c.args.begun.place.new) (string_bytes c.args.file.now)
    c.args.begun.place.over c.copy_archive-disk.result.disk _ was _ _ _ c.requires h c.share.ensures.deed c.close.ensures.deed
    (Err c.in-Err-finish_result.why) _ c.in-Err-finish_result.ensures

pub returns-in-Err-clause-copies : goal.returns-in-Err-clause-copies
returns-in-Err-clause-copies g c = λ places was h.
    leaving_spares places (string_bytes c.args.begun.place.target) (string_bytes c.args.begun.place.new) (string_bytes c.args.file.now)
    c.args.begun.place.over c.copy_archive-disk.result.disk _ was _ _ _ c.requires h c.share.ensures.deed c.close.ensures.deed
    c.remove.result _ c.remove.ensures.deed
