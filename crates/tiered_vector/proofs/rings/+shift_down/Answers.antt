use Rattle.std.proofs.Common.{ℕ, ◌-◌, ◌*◌, ◌++◌, length, take-append-drop, sym, ◌∙◌, ap₂, arith}
use Rattle.tiered_vector.proofs.Behind.{last_ring, ring_behind}
use Rattle.tiered_vector.proofs.Lists.{moved_down}
use Rattle.tiered_vector.proofs.rings.+shift_down.Goals as goal

pub returns-clause-items : goal.returns-clause-items
returns-clause-items g t c =
    let ring = c.split_at_mut-others in
    let turn = c.split_at_mut-rest in
    let before : ℕ = length c.args.turns.now - 1 in
    let turns_are = sym (take-append-drop before c.args.turns.now) ∙ ap₂ (λ xs ys. xs ++ ys) (sym turn.ensures.front) (sym turn.ensures.back) in
    let rings_are = sym (take-append-drop (before * 1023) c.args.rings.now) ∙ ap₂ (λ xs ys. xs ++ ys) (sym ring.ensures.front) (sym ring.ensures.back) in
    let was = last_ring c.args.turns.now turn.result.0.now turn.result.1.now c.args.rings.now ring.result.0.now ring.result.1.now turns_are rings_are
    (omega arith) (omega arith) (omega arith) in
    let is = ring_behind c.shift_down.new.turns turn.result.1.now c.pass_down-next.new.turn c.shift_down.new.rings c.pass_down-next.new.ring (omega arith)
    (omega arith) c.pass_down-next.ensures.ring in
    moved_down _ _ _ _ _ _ was is c.args.last c.pass_down-next.result c.shift_down.result c.pass_down-next.ensures.items c.shift_down.ensures.items
