use Rattle.std.proofs.Common.{◌<◌, ◌∷◌, ◌++◌, [], length, get_or, arith, ap, ◌∙◌}
use Rattle.std.specs.List.{remove}
use Rattle.tiered_vector.specs.Tiers.{tiered, turned}
use Rattle.tiered_vector.proofs.Joined.{length-tiered}
use Rattle.tiered_vector.proofs.Lists.{first_passed, gone_from, item_in_front}
use Rattle.tiered_vector.proofs.Turning.{unturned}
use Rattle.tiered_vector.proofs.Tiers.{first_ring, ring_before}
use Rattle.tiered_vector.proofs.rings.take_from_first.Goals as goal

pub returns-then-place-eq0-clause-gone : goal.returns-then-place-eq0-clause-gone
returns-then-place-eq0-clause-gone g c =
    let all = tiered c.args.turns.now c.args.rings.now in
    let count = length-tiered c.args.turns.now c.args.rings.now in
    rw c.if-place-eq0.true (first_passed all _ c.args.last c.shift_down.result (omega arith) c.shift_down.ensures.items).0

pub returns-then-place-eq0-clause-items : goal.returns-then-place-eq0-clause-items
returns-then-place-eq0-clause-items g c =
    let all = tiered c.args.turns.now c.args.rings.now in
    let count = length-tiered c.args.turns.now c.args.rings.now in
    rw c.if-place-eq0.true (first_passed all _ c.args.last c.shift_down.result (omega arith) c.shift_down.ensures.items).1

pub returns-clause-gone : goal.returns-clause-gone
returns-clause-gone g c =
    let ring = c.split_at_mut-ring in
    let turn = c.split_at_mut-turn in
    let was = first_ring c.args.turns.now turn.result.0.now turn.result.1.now c.args.rings.now ring.result.0.now ring.result.1.now (omega arith)
    turn.ensures.front turn.ensures.back ring.ensures.front ring.ensures.back in
    let straight = c.straighten.ensures.ring in
    let within : c.args.place < length (turned (get_or turn.result.0.now 0 0) ring.result.0.now) = omega (arith, ap length straight) in
    let gone = c.close_ring.result in
    c.close_ring.ensures.gone ∙ ap (λ xs. get_or xs c.args.place gone) straight ∙ item_in_front _ _ _ was c.args.place gone within

pub returns-clause-items : goal.returns-clause-items
returns-clause-items g c =
    let ring = c.split_at_mut-ring in
    let turn = c.split_at_mut-turn in
    let was = first_ring c.args.turns.now turn.result.0.now turn.result.1.now c.args.rings.now ring.result.0.now ring.result.1.now (omega arith)
    turn.ensures.front turn.ensures.back ring.ensures.front ring.ensures.back in
    let is = ring_before turn.result.0.now c.straighten.new.turn c.shift_down-next.new.turns c.close_ring.new.ring c.shift_down-next.new.rings
    (omega arith) (omega arith) in
    let place = c.args.place in
    let next = c.shift_down-next.result in
    let straight = c.straighten.ensures.ring in
    let within : place < length (turned (get_or turn.result.0.now 0 0) ring.result.0.now) = omega (arith, ap length straight) in
    gone_from _ _ _ _ _ _ was is place c.args.last next within c.shift_down-next.ensures.items
    (unturned c.straighten.new.turn c.close_ring.new.ring c.straighten.ensures.turn ∙ c.close_ring.ensures.items
    ∙ ap (λ xs. remove xs place ++ next ∷ []) straight)
