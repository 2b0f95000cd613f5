use Rattle.std.proofs.Common.{◌≡◌, ◌*◌, take}
use Rattle.tune_incipit.specs.ScaleAndIncipitKeys.{bytes_of_steps}
use Rattle.tune_incipit.proofs.incipit_keys.key_of_steps.Given as goal

-- the bytes of the steps so far stand in front
abbrev pub invariant-loop-place : goal.invariant-loop-place
invariant-loop-place g l = take (4 * l.place) l.bytes ≡ bytes_of_steps (take l.place l.all)
