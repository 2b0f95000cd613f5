use Rattle.tune_desk.specs.ArchiveFiles.{KeepsNone}
use Rattle.desk_copies.proofs.restores.put_copy.Goals as goal

pub returns-then-place : goal.returns-then-place
returns-then-place g c = λ file was h. c.put_over.ensures file was h

pub returns-in-Ok : goal.returns-in-Ok
returns-in-Ok g c = λ file was h. let put = c.in-Ok.ensures KeepsNone file was h c.if-place.false in (put.0, put.1.0)

pub returns-in-Err : goal.returns-in-Err
returns-in-Err g c = λ file was h. c.in-Err.ensures KeepsNone file was h c.if-place.false
