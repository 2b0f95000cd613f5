use Rattle.std.proofs.Common.{length}
use Rattle.tiered_vector.proofs.rings.+shift_down.Given as goal

abbrev pub decreases-shift_down : goal.decreases-shift_down
decreases-shift_down g l = length l.turns.now
