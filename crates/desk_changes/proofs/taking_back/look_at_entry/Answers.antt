use Rattle.desk_changes.proofs.LookingLemmas.{stood_before, stood_begun}
use Rattle.desk_changes.proofs.taking_back.look_at_entry.Goals as goal

pub returns-in-Before-clause-stands : goal.returns-in-Before-clause-stands
returns-in-Before-clause-stands g c = stood_before g.S.TuneStore _ _ _ _ c.in_ok-standing.ensures c.in-Before.is

pub returns-in-Begun-clause-stands : goal.returns-in-Begun-clause-stands
returns-in-Begun-clause-stands g c = stood_begun g.S.TuneStore _ _ _ _ c.in_ok-standing.ensures c.in-Begun.is
