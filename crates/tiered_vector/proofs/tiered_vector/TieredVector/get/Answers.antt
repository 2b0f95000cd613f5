use Rattle.std.proofs.Common.{length, get_or, take, arith, ap, sym, ◌∙◌}
use Rattle.tiered_vector.proofs.Held.{enough_held, length_held}
use Rattle.tiered_vector.proofs.Slots.{item_at, slot_within}
use Rattle.tiered_vector.proofs.tiered_vector.TieredVector.get.Goals as goal

pub index-requires : goal.index-requires
index-requires g c =
    let inside = c.self.inside in
    let turns = take inside.rings inside.turns in
    let items = inside.items.items in
    let is = ap (λ all. all.items) c.self.view_is in
    let enough = enough_held inside.rings inside.turns items c.self.invariant.1 in
    let same = length_held turns items c.args.self.now.items is in
    let slot = slot_within turns c.args.place (length items) enough (omega arith) in omega (arith, c.slot.ensures)

pub returns : goal.returns
returns g c =
    let inside = c.self.inside in
    let turns = take inside.rings inside.turns in
    let items = inside.items.items in
    let is = ap (λ all. all.items) c.self.view_is in
    let enough = enough_held inside.rings inside.turns items c.self.invariant.1 in
    let x = c.index.result.now in
    c.index.ensures ∙ ap (λ n. get_or items n x) c.slot.ensures ∙ sym (item_at turns items c.args.place x c.self.invariant.2 enough)
    ∙ ap (λ xs. get_or xs c.args.place x) is
