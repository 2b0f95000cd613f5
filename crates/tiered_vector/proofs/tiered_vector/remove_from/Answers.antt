use Rattle.std.proofs.Common.{ℕ, ◌*◌, ◌++◌, length, arith, ◌∙◌, ap, take, drop, length-append, ◌≤◌, get_or, sym, suc, length-take-le}
use Rattle.std.proofs.lemmas.List.{take_at}
use Rattle.tiered_vector.specs.Tiers.{tiered}
use Rattle.tiered_vector.proofs.Behind.{gone_before, gone_from_behind, item_before}
use Rattle.tiered_vector.proofs.Slots.{item_at, the_slot_behind}
use Rattle.tiered_vector.proofs.tiered_vector.remove_from.Goals as goal

pub returns-then-place-most-clause-items : goal.returns-then-place-most-clause-items
returns-then-place-most-clause-items g c =
    let turns = c.args.turns.now in
    ap (λ xs. tiered turns xs) c.remove.ensures.items
    ∙ gone_from_behind turns c.args.items.now.items (length turns * 1023) (omega arith) (omega arith) c.args.place (omega arith) (omega arith)

pub returns-clause-items : goal.returns-clause-items
returns-clause-items g c =
    let turns = c.args.turns.now in
    let most : ℕ = length turns * 1023 in
    let rings = c.split_at_mut-rings.result.0.now in
    let rest = c.split_at_mut-rings.result.1.now in
    let left = c.remove-last.new.self.items in
    let made = c.take_out.new.rings in
    let was = c.remove-last.ensures.items in
    let split = c.split_at_mut-rings.ensures in
    let rings_are = split.front ∙ ap (λ xs. take most xs) (c.deref_mut.ensures.value ∙ was) in
    let rest_is = split.back ∙ ap (λ xs. drop most xs) (c.deref_mut.ensures.value ∙ was) in
    ap (λ xs. tiered c.take_out.new.turns xs) (take_at (made ++ rest) (drop (length (made ++ rest)) left) c.remove-last.new.self.len
    (length-append made rest ∙ omega arith))
    ∙ gone_before turns c.args.items.now.items most (omega arith) (omega arith) c.take_out.new.turns rings made rest c.args.place c.remove-last.result
    (omega arith) (omega arith)
    (omega arith) (omega arith) c.remove-last.ensures.value rings_are rest_is c.take_out.ensures.items

pub returns-then-place-most-clause-gone : goal.returns-then-place-most-clause-gone
returns-then-place-most-clause-gone g c =
    let turns = c.args.turns.now in
    let items = c.args.items.now.items in
    let place = c.args.place in
    let gone = c.remove.result in
    let enough : 1023 * length turns ≤ length items = omega arith in
    c.remove.ensures.value ∙ ap (λ n. get_or items n gone) (the_slot_behind turns place (omega arith))
    ∙ sym (item_at turns items place gone c.requires.turns enough)

pub returns-clause-gone : goal.returns-clause-gone
returns-clause-gone g c =
    let turns = c.args.turns.now in
    let items = c.args.items.now.items in
    let most : ℕ = length turns * 1023 in
    let rings = c.split_at_mut-rings.result.0.now in
    let enough : most ≤ length items = omega arith in
    let was = c.split_at_mut-rings.ensures.front ∙ ap (λ xs. take most xs) (c.deref_mut.ensures.value ∙ c.remove-last.ensures.items) in
    let are = was ∙ take_at (take most items) (drop (suc most) items) most (length-take-le most items enough) in
    c.take_out.ensures.gone ∙ item_before turns items most (omega arith) enough rings c.args.place c.take_out.result are (omega arith)
