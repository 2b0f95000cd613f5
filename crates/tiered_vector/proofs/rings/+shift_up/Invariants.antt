use Rattle.std.proofs.Common.{length}
use Rattle.tiered_vector.proofs.rings.+shift_up.Given as goal

abbrev pub decreases-shift_up : goal.decreases-shift_up
decreases-shift_up g l = length l.turns.now
