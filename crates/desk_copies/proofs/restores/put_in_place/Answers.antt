use Rattle.std.proofs.Common.{Ok, Err, string_bytes}
use Rattle.tune_desk.specs.ArchiveFiles.{KeepsNone}
use Rattle.desk_copies.proofs.RestoreLemmas.{puts_over}
use Rattle.desk_copies.proofs.restores.put_in_place.Goals as goal

pub returns-in-Ok-finish_result : goal.returns-in-Ok-finish_result
returns-in-Ok-finish_result g c = λ file was h.
    puts_over file (string_bytes c.args.place.now.target) (string_bytes c.args.place.now.new) c.args.place.now.over c.in-Ok.number c.args.disk was _ _ _
    (Ok tt) c.requires.new c.requires.over (c.in-Ok.ensures file was h) c.close.ensures.deed c.in-Ok-finish_result.ensures

pub returns-in-Err-finish_result : goal.returns-in-Err-finish_result
returns-in-Err-finish_result g c = λ file was h.
    puts_over file (string_bytes c.args.place.now.target) (string_bytes c.args.place.now.new) c.args.place.now.over c.in-Ok.number c.args.disk was _ _ _
    (Err c.in-Err-finish_result.why) c.requires.new c.requires.over (c.in-Ok.ensures file was h) c.close.ensures.deed c.in-Err-finish_result.ensures

pub returns-in-Err : goal.returns-in-Err
returns-in-Err g c = λ file was h. c.leave_archive.ensures KeepsNone file was (c.in-Err.ensures file was h).begun
