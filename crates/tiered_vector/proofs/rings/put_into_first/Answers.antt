use Rattle.std.proofs.Common.{◌≤◌, ◌∷◌, ◌++◌, [], length, get_or, arith, ap, ◌∙◌}
use Rattle.std.specs.List.{insert}
use Rattle.tiered_vector.specs.Tiers.{turned}
use Rattle.tiered_vector.proofs.Lists.{come_into}
use Rattle.tiered_vector.proofs.Turning.{unturned}
use Rattle.tiered_vector.proofs.Tiers.{first_ring, ring_before}
use Rattle.tiered_vector.proofs.rings.put_into_first.Goals as goal

pub returns-clause-items : goal.returns-clause-items
returns-clause-items g c =
    let ring = c.split_at_mut-ring in
    let turn = c.split_at_mut-turn in
    let was = first_ring c.args.turns.now turn.result.0.now turn.result.1.now c.args.rings.now ring.result.0.now ring.result.1.now (omega arith)
    turn.ensures.front turn.ensures.back ring.ensures.front ring.ensures.back in
    let is = ring_before turn.result.0.now c.straighten.new.turn c.shift_up.new.turns c.open_ring-next.new.ring c.shift_up.new.rings
    (omega arith) c.open_ring-next.ensures.ring in
    let place = c.args.place in
    let item = c.args.item in
    let next = c.open_ring-next.result in
    let straight = c.straighten.ensures.ring in
    let within : place ≤ length (turned (get_or turn.result.0.now 0 0) ring.result.0.now) = omega (arith, ap length straight) in
    come_into _ _ _ _ _ _ was is place item next c.shift_up.result within c.shift_up.ensures.items
    (ap (λ xs. xs ++ next ∷ []) (unturned c.straighten.new.turn c.open_ring-next.new.ring c.straighten.ensures.turn) ∙ c.open_ring-next.ensures.items
    ∙ ap (λ xs. insert xs place item) straight)
