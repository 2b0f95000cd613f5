-- A disk that no clause calls honest.
use Rattle.std.proofs.Common.{Option, Some, None}
use Rattle.tune_pages.specs.Kept.{HonestAt}

pub never_honest : {D : Type 0} (disk : Option D) → HonestAt (λ _. ⊥) disk → ⊥
never_honest None is = is
never_honest (Some disk) is = is
