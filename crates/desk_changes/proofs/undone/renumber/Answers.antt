use Rattle.std.proofs.Common.{refl}
use Rattle.tune_asking.proofs.AskLemmas.{stays_by}
use Rattle.tune_changes.proofs.CarryLemmas.{carried_one}
use Rattle.desk_changes.proofs.undone.renumber.Goals as goal

pub returns : goal.returns
returns g c =
    carried_one g.S.TuneStore _ _ _ _ refl c.apply.ensures.answer c.apply.ensures.stops
    (stays_by _ _ _ c.apply.ensures.closes (c.apply.ensures.when_closed.0))
