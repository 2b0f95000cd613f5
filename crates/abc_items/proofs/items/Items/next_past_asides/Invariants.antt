use Rattle.std.proofs.Common.{◌≡◌, length}
use Rattle.abc_items.specs.Plain.{past_asides}
use Rattle.abc_items.proofs.items.Items.next_past_asides.Given as goal

-- the items that are left have what comes after the asides
abbrev pub invariant-items : goal.invariant-items
invariant-items l = past_asides l.self ≡ past_asides l.initial.self

abbrev pub decreases-items : goal.decreases-items
decreases-items l = length l.self
