use Rattle.std.proofs.Common.{ap, ◌∙◌}
use Rattle.tiered_vector.specs.Tiers.{tiered}
use Rattle.tiered_vector.proofs.Joined.{straight_rings}
use Rattle.tiered_vector.proofs.tiered_vector.TieredVector.from.Goals as goal

pub returns-clause-items : goal.returns-clause-items
returns-clause-items g c =
    ap (λ turns. tiered turns c.args.items.items) c.add_rings-rings.ensures.straight ∙ straight_rings _ c.args.items.items
