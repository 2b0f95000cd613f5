use Rattle.std.proofs.Common.{refl, string_bytes}
use Rattle.tune_desk.proofs.EntryLemmas.{none_keeps}
use Rattle.desk_loads.proofs.script_loads.load_bytes.Goals as goal

pub returns-in-Ok : goal.returns-in-Ok
returns-in-Ok g c = c.fill_new.ensures _ c.in-Ok.ensures.begun (c.in-Ok.ensures.over refl)

pub returns-in-Err : goal.returns-in-Err
returns-in-Err g c = none_keeps (string_bytes c.args.file.now) _ _ c.in-Err.ensures.begun
