use Rattle.std.proofs.Common.{◌≡◌, length, ◌-◌, arith, sym, ◌∙◌}
use Rattle.tiered_vector.proofs.Turning.{opened}
use Rattle.tiered_vector.proofs.rings.open_ring.Goals as goal

pub returns-clause-items : goal.returns-clause-items
returns-clause-items g c =
    let last : c.replace.result ≡ c.index-ring-place.result = c.replace.ensures.value ∙ sym c.index-ring-place.is in
    rw (c.replace.ensures.after, last)
    (opened c.args.ring.now c.rotate_right.new.self c.args.place (length c.args.ring.now - c.args.place) c.args.item c.index-ring-place.result (omega arith)
    (omega arith) c.rotate_right.ensures.after c.index-ring-place.is)
