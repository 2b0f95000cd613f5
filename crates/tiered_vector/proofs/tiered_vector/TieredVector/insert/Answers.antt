use Rattle.std.proofs.Common.{take, arith, ap}
use Rattle.tiered_vector.proofs.Held.{length_held}
use Rattle.tiered_vector.proofs.tiered_vector.TieredVector.insert.Goals as goal

pub insert_item-self-inside-requires-clause-place : goal.insert_item-self-inside-requires-clause-place
insert_item-self-inside-requires-clause-place g c =
    let inside = c.self.inside in
    let is = ap (λ all. all.items) c.self.view_is in
    let same = length_held (take inside.rings inside.turns) inside.items.items c.args.self.now.items is in
    omega arith

pub insert_item-self-inside-requires-clause-room : goal.insert_item-self-inside-requires-clause-room
insert_item-self-inside-requires-clause-room g c =
    let inside = c.self.inside in
    let is = ap (λ all. all.items) c.self.view_is in
    let same = length_held (take inside.rings inside.turns) inside.items.items c.args.self.now.items is in
    let room = ap (λ all. all.room) c.self.view_is in omega arith
