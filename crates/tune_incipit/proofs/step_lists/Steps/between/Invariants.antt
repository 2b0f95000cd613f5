use Rattle.std.proofs.Common.{◌≡◌, ◌+◌, take}
use Rattle.tune_incipit.specs.Incipits.{differences}
use Rattle.tune_incipit.specs.Inside.StepRows.{IsPaddedRow}
use Rattle.tune_incipit.proofs.step_lists.Steps.between.Given as goal

-- the steps so far stand in front
abbrev pub invariant-loop-place : goal.invariant-loop-place
invariant-loop-place l = record {
  padded : IsPaddedRow l.place l.items;
  steps : take l.place l.items ≡ differences (take (l.place + 1) l.pitches);
}
