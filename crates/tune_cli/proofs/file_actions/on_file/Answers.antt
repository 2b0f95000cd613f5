use Rattle.std.proofs.Common.{refl, Ok, Err}
use Rattle.tune_cli.proofs.DriveLemmas.{two_deeds}
use Rattle.tune_cli.proofs.file_actions.on_file.Goals as goal

pub returns-in-Ok : goal.returns-in-Ok
returns-in-Ok g c = (
  Ok c.in-Ok.disk,
  (
    c.do_on-status.result,
    c.in-Ok.ensures.is_new,
    c.do_on-status.ensures,
    refl,
    two_deeds _ _ _ _ _ c.in-Ok.ensures.deed c.close.ensures.deed,
  ),
)

pub returns-in-Err : goal.returns-in-Err
returns-in-Err g c = (Err c.in-Err.field-0, (c.say_reason.ensures, c.in-Err.ensures.deed))
