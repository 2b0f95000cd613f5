-- what the steps so far and the items of the rest leave, the items of the book leave
use Rattle.std.proofs.Common.{◌≡◌, List, length}
use Rattle.std.specs.Prelude.{map}
use Rattle.tune_undo.specs.OldEntries.{step_value}
use Rattle.tune_undo.specs.OldItems.{Item, Top, IsItemLog, standing, standing_after}
use Rattle.tune_undo.specs.Inside.Found.{place_of}
use Rattle.tune_undo.proofs.steps.standing_steps.Given as goal

abbrev pub invariant-loop-rest : goal.invariant-loop-rest
invariant-loop-rest l = (later : List Item) → IsItemLog (place_of l.top) l.rest later
    → (items : List Item) × IsItemLog Top l.book items × (standing items ≡ standing_after (map step_value l.steps.items) later)

abbrev pub decreases-loop-rest : goal.decreases-loop-rest
decreases-loop-rest l = length l.rest
