use Rattle.std.proofs.Common.{◌++◌, ◌∷◌, [], take, arith, ap, ◌∙◌}
use Rattle.tiered_vector.specs.Tiers.{tiered}
use Rattle.tiered_vector.proofs.Held.{enough_held, length_held}
use Rattle.tiered_vector.proofs.Joined.{are_turns_more, items_put_behind, more_straight_rings}
use Rattle.tiered_vector.proofs.tiered_vector.TieredVector.push.Goals as goal

pub unwrap-requires : goal.unwrap-requires
unwrap-requires g c =
    let inside = c.self.inside in
    let is = ap (λ all. all.items) c.self.view_is in
    let same = length_held (take inside.rings inside.turns) inside.items.items c.args.self.now.items is in
    let room = ap (λ all. all.room) c.self.view_is in
    c.push.ensures.succeeds (omega (arith, inside.items.ok.0))

pub invariant_of-self : goal.invariant_of-self
invariant_of-self g c =
    let made = c.add_rings-self-inside.ensures in
    (omega arith, omega arith, rw made.straight (are_turns_more _ _ c.self.invariant.2))

pub returns-clause-items : goal.returns-clause-items
returns-clause-items g c =
    let inside = c.self.inside in
    let turns = take inside.rings inside.turns in
    let items = inside.items.items in
    let is = ap (λ all. all.items) c.self.view_is in
    let enough = enough_held inside.rings inside.turns items c.self.invariant.1 in
    let put = rw c.unwrap.ensures at c.push.ensures.items in
    let more = c.args.item ∷ [] in
    ap (λ all. tiered all c.push.new.self.items) c.add_rings-self-inside.ensures.straight ∙ more_straight_rings turns _ c.push.new.self.items
    ∙ ap (λ xs. tiered turns xs) put ∙ items_put_behind turns items more enough ∙ ap (λ xs. xs ++ more) is

pub returns-clause-room : goal.returns-clause-room
returns-clause-room g c = let room = ap (λ all. all.room) c.self.view_is in omega (arith, c.push.ensures.capacity)
