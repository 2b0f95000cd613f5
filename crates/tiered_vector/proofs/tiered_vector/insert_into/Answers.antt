use Rattle.std.proofs.Common.{ℕ, ◌*◌, ◌++◌, length, arith, ◌∙◌, ap, take, drop, length-append}
use Rattle.std.proofs.lemmas.List.{take_at}
use Rattle.tiered_vector.specs.Tiers.{tiered}
use Rattle.std.specs.List.{insert}
use Rattle.tiered_vector.proofs.Behind.{come_before, come_from_behind}
use Rattle.tiered_vector.proofs.tiered_vector.insert_into.Goals as goal

pub returns-then-place-most-clause-items : goal.returns-then-place-most-clause-items
returns-then-place-most-clause-items g c =
    let turns = c.args.turns.now in
    let put = rw c.unwrap.ensures at c.insert.ensures.items in
    ap (λ xs. tiered turns xs) put
    ∙ come_from_behind turns c.args.items.now.items (length turns * 1023) (omega arith) (omega arith) c.args.place c.args.item (omega arith) (omega arith)

pub returns-clause-items : goal.returns-clause-items
returns-clause-items g c =
    let turns = c.args.turns.now in
    let most : ℕ = length turns * 1023 in
    let rings = c.split_at_mut-rings.result.0.now in
    let rest = c.split_at_mut-rings.result.1.now in
    let made = c.put_in-last.new.rings in
    let items = c.args.items.now in
    let last = c.put_in-last.result in
    let value = c.deref_mut.ensures.value in
    let rings_are = c.split_at_mut-rings.ensures.front ∙ ap (λ xs. take most xs) value in
    let rest_is = c.split_at_mut-rings.ensures.back ∙ ap (λ xs. drop most xs) value in
    let left = take_at (made ++ rest) (drop (length (made ++ rest)) items.items) items.len (length-append made rest ∙ omega arith) in
    let put = rw c.unwrap-2.ensures at c.insert-2.ensures.items in
    ap (λ xs. tiered c.put_in-last.new.turns xs) put ∙ ap (λ xs. tiered c.put_in-last.new.turns (insert xs most last)) left
    ∙ come_before turns items.items most (omega arith) (omega arith) c.put_in-last.new.turns rings made rest c.args.place last (omega arith) (omega arith)
    (omega arith)
    c.args.item rings_are rest_is c.put_in-last.ensures.items
