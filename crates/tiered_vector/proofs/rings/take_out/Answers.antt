use Rattle.std.proofs.Common.{ℕ, ◌*◌, ◌/◌, ◌%◌, ◌++◌, arith, take-append-drop, sym, ◌∙◌, ap₂}
use Rattle.tiered_vector.proofs.Joined.{gone_behind, item_behind}
use Rattle.tiered_vector.proofs.rings.take_out.Goals as goal

pub returns-clause-items : goal.returns-clause-items
returns-clause-items g c =
    let later = c.split_at_mut-later in
    let rest = c.split_at_mut-rest in
    let ring : ℕ = c.args.place / 1023 in
    let turns_are = sym (take-append-drop ring c.args.turns.now) ∙ ap₂ (λ xs ys. xs ++ ys) (sym rest.ensures.front) (sym rest.ensures.back) in
    let rings_are = sym (take-append-drop (ring * 1023) c.args.rings.now) ∙ ap₂ (λ xs ys. xs ++ ys) (sym later.ensures.front) (sym later.ensures.back) in
    gone_behind c.args.turns.now rest.result.0.now rest.result.1.now c.take_from_first.new.turns c.args.rings.now later.result.0.now later.result.1.now
    c.take_from_first.new.rings
    turns_are rings_are (omega arith) c.args.place (c.args.place % 1023) (omega arith) (omega arith) c.args.last c.take_from_first.ensures.items

pub returns-clause-gone : goal.returns-clause-gone
returns-clause-gone g c =
    let later = c.split_at_mut-later in
    let rest = c.split_at_mut-rest in
    let ring : ℕ = c.args.place / 1023 in
    let turns_are = sym (take-append-drop ring c.args.turns.now) ∙ ap₂ (λ xs ys. xs ++ ys) (sym rest.ensures.front) (sym rest.ensures.back) in
    let rings_are = sym (take-append-drop (ring * 1023) c.args.rings.now) ∙ ap₂ (λ xs ys. xs ++ ys) (sym later.ensures.front) (sym later.ensures.back) in
    c.take_from_first.ensures.gone
    ∙ item_behind c.args.turns.now rest.result.0.now rest.result.1.now c.take_from_first.new.turns c.args.rings.now later.result.0.now later.result.1.now
    c.take_from_first.new.rings
    turns_are rings_are (omega arith) c.args.place (c.args.place % 1023) (omega arith) (omega arith) c.take_from_first.result
