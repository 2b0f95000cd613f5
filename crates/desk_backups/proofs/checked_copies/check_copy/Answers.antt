use Rattle.std.proofs.Common.{refl, inl, inr}
use Rattle.desk_backups.proofs.checked_copies.check_copy.Goals as goal

pub returns-in-Ok-clause-tells : goal.returns-in-Ok-clause-tells
returns-in-Ok-clause-tells g c = inl (c.in-Ok.counts, c.in-Ok.ensures.checks, c.print_counts.ensures)

pub returns-in-Err-clause-tells : goal.returns-in-Err-clause-tells
returns-in-Err-clause-tells g c = inr (c.in-Err.ensures.checks, (refl, refl), c.say_unchecked.ensures)
