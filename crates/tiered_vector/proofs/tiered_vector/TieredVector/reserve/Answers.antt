use Rattle.std.proofs.Common.{take, arith}
use Rattle.std.proofs.lemmas.Result.{on_ok_weaker}
use Rattle.tiered_vector.proofs.Joined.{length-tiered}
use Rattle.tiered_vector.proofs.tiered_vector.TieredVector.reserve.Goals as goal

pub returns-clause-room : goal.returns-clause-room
returns-clause-room g c =
    let new = c.reserve.new.self in
    let count = length-tiered (take c.self.inside.rings c.self.inside.turns) new.items in
    on_ok_weaker c.reserve.result (λ enough. omega (arith, enough, new.ok.0)) c.reserve.ensures.ok
