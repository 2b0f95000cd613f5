use Rattle.std.proofs.Common.{ℕ, ◌*◌, ◌/◌, ◌%◌, ◌++◌, arith, take-append-drop, sym, ◌∙◌, ap₂}
use Rattle.tiered_vector.proofs.Joined.{come_behind}
use Rattle.tiered_vector.proofs.rings.put_in.Goals as goal

pub returns-clause-items : goal.returns-clause-items
returns-clause-items g c =
    let later = c.split_at_mut-later in
    let rest = c.split_at_mut-rest in
    let ring : ℕ = c.args.place / 1023 in
    let turns_are = sym (take-append-drop ring c.args.turns.now) ∙ ap₂ (λ xs ys. xs ++ ys) (sym rest.ensures.front) (sym rest.ensures.back) in
    let rings_are = sym (take-append-drop (ring * 1023) c.args.rings.now) ∙ ap₂ (λ xs ys. xs ++ ys) (sym later.ensures.front) (sym later.ensures.back) in
    come_behind c.args.turns.now rest.result.0.now rest.result.1.now c.put_into_first.new.turns c.args.rings.now later.result.0.now later.result.1.now
    c.put_into_first.new.rings
    turns_are rings_are (omega arith) c.args.place (c.args.place % 1023) (omega arith) (omega arith) c.args.item c.put_into_first.result
    c.put_into_first.ensures.items
