use Rattle.std.proofs.Common.{ℕ, ◌-◌, ◌*◌, ◌++◌, length, set, arith, take-append-drop, sym, ◌∙◌, ap, ap₂}
use Rattle.std.proofs.lemmas.List.{take_at}
use Rattle.tiered_vector.specs.Tiers.{tiered}
use Rattle.tiered_vector.proofs.Behind.{last_ring_left}
use Rattle.tiered_vector.proofs.tiered_vector.leave_some.Goals as goal

pub returns-clause-items : goal.returns-clause-items
returns-clause-items g c =
    let turn = c.split_at_mut-turn in
    let ring = c.split_at_mut-ring in
    let last : ℕ = length c.args.turns.now - 1 in
    let turns_are = sym (take-append-drop last c.args.turns.now) ∙ ap₂ (λ xs ys. xs ++ ys) (sym turn.ensures.front) (sym turn.ensures.back) in
    let items_are = sym (take-append-drop (last * 1023) c.args.items.now) ∙ ap₂ (λ xs ys. xs ++ ys) (sym ring.ensures.front) (sym ring.ensures.back) in
    let items = ring.result.0.now ++ c.straighten.new.ring in
    ap (λ turns. tiered turns items) (take_at turn.result.0.now (set turn.result.1.now 0 c.straighten.new.turn) last (omega arith))
    ∙ last_ring_left c.args.turns.now turn.result.0.now turn.result.1.now c.args.items.now ring.result.0.now ring.result.1.now c.straighten.new.ring
    turns_are items_are
    (omega arith) (omega arith) (omega arith) c.straighten.ensures.ring
