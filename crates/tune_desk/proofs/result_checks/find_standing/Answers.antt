use Rattle.std.proofs.Common.{refl, [], string_bytes}
use Rattle.tune_desk.proofs.AskLemmas.{look_then, asks_one}
use Rattle.tune_desk.proofs.DeedLists.{first_of_one}
use Rattle.tune_desk.specs.Refusals.{HasFault}
use Rattle.tune_desk.proofs.result_checks.find_standing.Goals as goal

pub returns-in-Ok-Nothing : goal.returns-in-Ok-Nothing
returns-in-Ok-Nothing g c = λ places.
    look_then places (string_bytes c.args.target.now) c.find_folder.result _ _ _ _ c.in-Ok-Nothing.ensures.deed refl (c.find_folder.ensures places)

pub returns-in-Err : goal.returns-in-Err
returns-in-Err g c = λ places. asks_one (HasFault c.in-Err.fault) _ _ _ c.in-Err.ensures.deed refl (_, refl, first_of_one _ [])
