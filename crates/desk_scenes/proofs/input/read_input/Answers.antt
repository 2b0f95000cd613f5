use Rattle.std.proofs.Common.{[], refl}
use Rattle.std.proofs.KnownBytes.{Consumes-all}
use Rattle.desk_scenes.proofs.input.read_input.Goals as goal

pub returns-in-End-clause-bytes : goal.returns-in-End-clause-bytes
returns-in-End-clause-bytes g c = Consumes-all _ _ _ [] _ c.loop.invariant.took c.in-End.ensures.bytes.0 refl
