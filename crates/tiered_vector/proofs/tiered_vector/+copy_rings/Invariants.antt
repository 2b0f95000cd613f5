use Rattle.std.proofs.Common.{length}
use Rattle.tiered_vector.proofs.tiered_vector.+copy_rings.Given as goal

abbrev pub decreases-copy_rings : goal.decreases-copy_rings
decreases-copy_rings g l = length l.turns.now
