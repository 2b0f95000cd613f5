use Rattle.std.proofs.Common.{refl, string_bytes}
use Rattle.desk_copies.proofs.SumLemmas.{sum_unasked, sum_untold, no_sum, sum_looked}
use Rattle.desk_copies.proofs.sum_files.compare_sum.Goals as goal

pub returns-in_default : goal.returns-in_default
returns-in_default g c = sum_unasked _ _ _ _

pub returns-in-Ok-Nothing : goal.returns-in-Ok-Nothing
returns-in-Ok-Nothing g c =
    no_sum (string_bytes c.args.copy.now) c.args.sum.now _ (string_bytes c.in-Ok.path) _ _ c.in-Ok.ensures
    (rw c.in-Ok-Nothing.field-0-is at c.in-Ok-Nothing.ensures.deed)

pub returns-in-Ok-look : goal.returns-in-Ok-look
returns-in-Ok-look g c = sum_looked _ _ _ _ _ _ _ c.look.ensures.deed refl (c.compare_told.ensures (string_bytes c.args.copy.now) c.in-Ok.ensures)

pub returns : goal.returns
returns g c = sum_untold _ _ _ _ _ _ c.look.ensures.deed refl
