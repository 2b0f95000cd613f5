use Rattle.std.proofs.Common.{◌≡◌, arith, sym, ◌∙◌}
use Rattle.tiered_vector.proofs.Turning.{last_turn}
use Rattle.tiered_vector.proofs.rings.pass_down.Goals as goal

pub returns-then-turn-eq1022-clause-items : goal.returns-then-turn-eq1022-clause-items
returns-then-turn-eq1022-clause-items g c =
    let first : c.replace-first.result ≡ c.index-ring-turn.result = c.replace-first.ensures.value ∙ sym c.index-ring-turn.is in
    rw (c.replace-first.ensures.after, first)
    (last_turn c.args.ring.now c.args.turn.now c.args.last c.index-ring-turn.result (omega arith) c.index-ring-turn.is)
