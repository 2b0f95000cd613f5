use Rattle.std.proofs.Common.{◌-◌, ◌++◌, take, arith, ◌∙◌, ap}
use Rattle.std.proofs.lemmas.List.{take_at}
use Rattle.std.specs.List.{insert}
use Rattle.tiered_vector.specs.Tiers.{tiered}
use Rattle.tiered_vector.proofs.Joined.{more_straight_rings}
use Rattle.tiered_vector.proofs.tiered_vector.insert_item.Goals as goal

pub returns-clause-items : goal.returns-clause-items
returns-clause-items g c =
    let made = c.insert_into.new.turns in
    let rest = c.split_at_mut-turned.result.1.now in
    let items = c.insert_into.new.items.items in
    let rings = c.args.rings in
    ap (λ turns. tiered turns items) c.add_rings.ensures.straight ∙ more_straight_rings (take rings (made ++ rest)) (c.add_rings.result - rings) items
    ∙ ap (λ turns. tiered turns items) (take_at made rest rings (omega arith)) ∙ c.insert_into.ensures.items
    ∙ ap (λ turns. insert (tiered turns c.args.items.now.items) c.args.place c.args.item) c.split_at_mut-turned.ensures.front
