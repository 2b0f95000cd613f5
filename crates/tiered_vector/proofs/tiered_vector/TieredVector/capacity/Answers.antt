use Rattle.std.proofs.Common.{take, arith, ap}
use Rattle.tiered_vector.proofs.Held.{length_held}
use Rattle.tiered_vector.proofs.tiered_vector.TieredVector.capacity.Goals as goal

pub returns-clause-within : goal.returns-clause-within
returns-clause-within g c =
    let inside = c.self.inside in
    let is = ap (λ all. all.items) c.self.view_is in
    let same = length_held (take inside.rings inside.turns) inside.items.items c.args.self.now.items is in
    let held = inside.items in omega (arith, c.capacity.ensures)
