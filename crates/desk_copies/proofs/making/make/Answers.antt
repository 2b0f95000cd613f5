use Rattle.std.proofs.Common.{refl, inl, inr}
use Rattle.desk_copies.proofs.making.make.Goals as goal

pub returns-in-Ok : goal.returns-in-Ok
returns-in-Ok g c = inl (refl, c.in-Ok.ensures)

pub returns-in-Err : goal.returns-in-Err
returns-in-Err g c = inr (c.say_unmade.ensures, c.in-Err.ensures)
