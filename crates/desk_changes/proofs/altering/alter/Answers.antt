use Rattle.std.proofs.Common.{inr}
use Rattle.desk_changes.proofs.altering.alter.Goals as goal

pub returns-in-Err-clause-changes : goal.returns-in-Err-clause-changes
returns-in-Err-clause-changes g c = inr (c.say_unchanged.ensures, c.in-Err.ensures.alters)
