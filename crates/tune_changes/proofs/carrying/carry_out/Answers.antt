use Rattle.tune_asking.proofs.AskLemmas.{stays_by}
use Rattle.tune_changes.proofs.CarryLemmas.{accepted_answer, carried_one}
use Rattle.tune_changes.proofs.carrying.carry_out.Goals as goal

pub returns-clause-carries : goal.returns-clause-carries
returns-clause-carries g c =
    carried_one g.S.TuneStore _ _ _ _ c.requires c.apply.ensures.answer c.apply.ensures.stops
    (stays_by _ _ _ c.apply.ensures.closes (c.apply.ensures.when_closed.0))

pub returns-clause-reply : goal.returns-clause-reply
returns-clause-reply g c = λ is_open h. accepted_answer _ _ _ _ (c.apply.ensures.answer h)
