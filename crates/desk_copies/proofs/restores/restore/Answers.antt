use Rattle.std.proofs.Common.{refl, inl, inr}
use Rattle.desk_copies.proofs.restores.restore.Goals as goal

pub returns-in-Ok : goal.returns-in-Ok
returns-in-Ok g c = inl (c.in-Ok.restored, c.in-Ok.ensures, c.print_restored.ensures)

pub returns-in-Err : goal.returns-in-Err
returns-in-Err g c = inr (c.in-Err.ensures, (refl, refl), c.say_unrestored.ensures)
