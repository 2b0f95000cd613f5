use Rattle.std.proofs.Common.{take, arith, ap}
use Rattle.tiered_vector.proofs.Held.{length_held}
use Rattle.tiered_vector.proofs.tiered_vector.TieredVector.len.Goals as goal

pub returns : goal.returns
returns g c =
    let inside = c.self.inside in
    let is = ap (λ all. all.items) c.self.view_is in
    let same = length_held (take inside.rings inside.turns) inside.items.items c.args.self.now.items is in
    omega (arith, c.len.ensures)
