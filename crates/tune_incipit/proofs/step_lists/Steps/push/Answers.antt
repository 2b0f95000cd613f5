use Rattle.std.proofs.Common.{◌<◌, length, arith, ap, to_z, of_z, w32}
use Rattle.tune_incipit.specs.Inside.StepRows.{most_steps}
use Rattle.tune_incipit.proofs.StepRows.{padded_more}
use Rattle.tune_incipit.proofs.step_lists.Steps.push.Goals as goal

pub invariant_of-self : goal.invariant_of-self
invariant_of-self c =
    let row = c.self.inside in
    let long = c.self.invariant.1.steps in
    let room : row.count < most_steps = omega (arith, long, ap length c.self.view_is) in
    (omega arith, padded_more row.count row.items (to_z w32 (of_z w32 c.args.step)) room c.self.invariant.1)
