use Rattle.std.proofs.Common.{length}
use Rattle.tune_disk.proofs.Told.{on_ok, on_err, written_told, broken_told}
use Rattle.tune_disk.proofs.file.write_all.Goals as goal

pub returns-in-Ok-clause-ok : goal.returns-in-Ok-clause-ok
returns-in-Ok-clause-ok c =
    let parts = c.write_parts-done in
    on_ok parts.result _
    (written_told c.args.at c.args.log.now.items c.and.result.items parts.new.log.items c.and-in-Ok.result.items c.and.ensures
    c.args.bytes.now c.in-Ok.ensures.ok c.and-in-Ok.ensures)

pub returns-in-Err-clause-err : goal.returns-in-Err-clause-err
returns-in-Err-clause-err c =
    let parts = c.write_parts-done in
    on_err parts.result _
    (broken_told c.args.at c.args.log.now.items c.and.result.items parts.new.log.items c.and-in-Err.result.items c.and.ensures
    (length c.args.bytes.now) c.in-Err.ensures.err c.and-in-Err.ensures)
