use Rattle.std.proofs.Common.{◌∙◌, sym, subst}
use Rattle.tune_disk.specs.Disk.{Medium, MayLeave}
use Rattle.tune_disk.proofs.Moments.{settled_leaves}
use Rattle.tune_disk.proofs.Parts.{within_write, before_write}
use Rattle.tune_disk.proofs.laws.law_of_stops.Goals as goal

pub returns-clause-synced : goal.returns-clause-synced
returns-clause-synced g c = λ old new seen goes file left. settled_leaves old.seen file (subst (λ (m : Medium). MayLeave m file) goes.now left) ∙ sym seen

pub returns-clause-within_write : goal.returns-clause-within_write
returns-clause-within_write g c = λ m at n part_at part within file left. within_write m at n part_at part within file left

pub returns-clause-before_write : goal.returns-clause-before_write
returns-clause-before_write g c = λ m at n file left. before_write m at n file left
