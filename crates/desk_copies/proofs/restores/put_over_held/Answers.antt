use Rattle.tune_desk.specs.ArchiveFiles.{KeepsNone}
use Rattle.desk_copies.proofs.restores.put_over_held.Goals as goal

pub returns-in-Ok : goal.returns-in-Ok
returns-in-Ok g c = λ file was h. c.put_in_place.ensures file was (c.replaceable.ensures file was h)

pub returns-in-Err : goal.returns-in-Err
returns-in-Err g c = λ file was h. c.leave_archive.ensures KeepsNone file was (c.replaceable.ensures file was h).begun
