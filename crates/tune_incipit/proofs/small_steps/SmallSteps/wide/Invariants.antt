use Rattle.std.proofs.Common.{◌≡◌, take}
use Rattle.tune_incipit.proofs.small_steps.SmallSteps.wide.Given as goal

abbrev pub invariant-loop-step : goal.invariant-loop-step
invariant-loop-step l = l.steps ≡ take l.step-index l.all
