use Rattle.std.proofs.Common.{length, get_or, set, take, arith, ap, sym, ◌∙◌}
use Rattle.tiered_vector.specs.Tiers.{tiered}
use Rattle.tiered_vector.proofs.Held.{enough_held, length_held}
use Rattle.tiered_vector.proofs.Slots.{item_at, item_put, slot_within}
use Rattle.tiered_vector.proofs.tiered_vector.TieredVector.replace.Goals as goal

pub index_mut-requires : goal.index_mut-requires
index_mut-requires g c =
    let inside = c.self.inside in
    let turns = take inside.rings inside.turns in
    let items = inside.items.items in
    let is = ap (λ all. all.items) c.self.view_is in
    let enough = enough_held inside.rings inside.turns items c.self.invariant.1 in
    let same = length_held turns items c.args.self.now.items is in
    let slot = slot_within turns c.args.place (length items) enough (omega arith) in omega (arith, c.slot-slot.ensures)

pub returns-clause-gone : goal.returns-clause-gone
returns-clause-gone g c =
    let inside = c.self.inside in
    let turns = take inside.rings inside.turns in
    let items = inside.items.items in
    let is = ap (λ all. all.items) c.self.view_is in
    let enough = enough_held inside.rings inside.turns items c.self.invariant.1 in
    let x = c.index_mut.result.now in
    rw c.replace.ensures.value
    (c.index_mut.ensures.value ∙ ap (λ n. get_or items n x) c.slot-slot.ensures ∙ sym (item_at turns items c.args.place x c.self.invariant.2 enough)
    ∙ ap (λ xs. get_or xs c.args.place x) is)

pub returns-clause-items : goal.returns-clause-items
returns-clause-items g c =
    let inside = c.self.inside in
    let turns = take inside.rings inside.turns in
    let items = inside.items.items in
    let is = ap (λ all. all.items) c.self.view_is in
    let enough = enough_held inside.rings inside.turns items c.self.invariant.1 in
    let new = c.replace.new.dest in
    ap (λ n. tiered turns (set items n new)) c.slot-slot.ensures ∙ item_put turns items c.args.place new c.self.invariant.2 enough
    ∙ ap (λ xs. set xs c.args.place new) is ∙ ap (λ x. set c.args.self.now.items c.args.place x) c.replace.ensures.after
