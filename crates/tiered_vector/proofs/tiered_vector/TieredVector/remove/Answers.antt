use Rattle.std.proofs.Common.{take, arith, ap}
use Rattle.tiered_vector.proofs.Held.{length_held}
use Rattle.tiered_vector.proofs.Joined.{length-tiered}
use Rattle.tiered_vector.proofs.tiered_vector.TieredVector.remove.Goals as goal

pub remove_item-requires-clause-place : goal.remove_item-requires-clause-place
remove_item-requires-clause-place g c =
    let inside = c.self.inside in
    let is = ap (λ all. all.items) c.self.view_is in
    let same = length_held (take inside.rings inside.turns) inside.items.items c.args.self.now.items is in
    omega arith

pub returns-clause-spare : goal.returns-clause-spare
returns-clause-spare g c =
    let new = c.remove_item.new in
    let count = length-tiered (take new.rings new.turns) new.items.items in
    let room = c.remove_item.ensures.room in
    let fewer = c.remove_item.ensures.length in
    omega (arith, c.self.inside.items.ok.0, new.items.ok.0)
