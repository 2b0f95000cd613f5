use Rattle.std.proofs.Common.{refl, string_bytes, subst}
use Rattle.std.specs.Prelude.{OnOk}
use Rattle.desk_copies.specs.SumFiles.{TellsSum}
use Rattle.desk_copies.proofs.SumLemmas.{sum_untold, sum_told}
use Rattle.desk_copies.proofs.sum_files.compare_told.Goals as goal

pub returns-in-Ok : goal.returns-in-Ok
returns-in-Ok g c = λ copy same.
    sum_told copy c.args.sum.now c.tells.result _ (string_bytes c.args.path.now) _ _ same c.in-Ok.ensures.deed
    (subst (λ text. OnOk c.tells.result (TellsSum text c.args.sum.now)) c.as_slice.ensures c.tells.ensures)

pub returns-in-Err : goal.returns-in-Err
returns-in-Err g c = λ copy same. sum_untold _ _ _ _ _ _ c.in-Err.ensures.deed refl
