use Rattle.std.proofs.Common.{◌≡◌, ◌≤◌, ◌++◌, length}
use Rattle.byteorder.specs.Endian.{big_bytes}
use Rattle.tune_incipit.specs.ScaleAndIncipitKeys.{bytes_of_steps}
use Rattle.tune_incipit.proofs.small_steps.SmallSteps.of_key.Given as goal

-- the bytes of the steps so far stand in front of the rest
abbrev pub invariant-loop-place : goal.invariant-loop-place
invariant-loop-place g l = record {
  few : length l.steps ≤ l.place;
  bytes : big_bytes g.row.W l.key ≡ bytes_of_steps l.steps ++ l.rest;
}
