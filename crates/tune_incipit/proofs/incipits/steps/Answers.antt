use Rattle.std.proofs.Common.{ap, ◌∙◌, length}
use Rattle.tune_incipit.specs.Incipits.{tune_notes}
use Rattle.tune_incipit.proofs.IncipitLaws.{length-incipit_of, incipit_of-raised, incipit_of-fewer}
use Rattle.tune_incipit.proofs.incipits.steps.Goals as goal

pub returns-clause-count : goal.returns-clause-count
returns-clause-count c =
    ap length c.opening_steps.ensures
    ∙ length-incipit_of c.args.notes (tune_notes c.args.text.now)

pub returns-clause-fronts : goal.returns-clause-fronts
returns-clause-fronts c = incipit_of-fewer c.args.notes

pub returns-clause-at_each_height : goal.returns-clause-at_each_height
returns-clause-at_each_height c = incipit_of-raised c.args.notes
