use Rattle.std.proofs.Common.{◌∙◌, length, ap, arith}
use Rattle.tune_incipit.proofs.Growing.{all_steps-start}
use Rattle.tune_incipit.proofs.incipits.first_steps.Goals as goal

pub steps_with-requires-clause-room : goal.steps_with-requires-clause-room
steps_with-requires-clause-room c = omega (arith, ap length c.new.ensures, c.requires.few)

pub returns : goal.returns
returns c = c.steps_with.ensures ∙ all_steps-start c.args.count c.new.result c.args.notes c.new.ensures
