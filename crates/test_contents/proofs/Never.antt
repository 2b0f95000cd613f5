-- A disk that no clause calls honest.
use Rattle.std.proofs.Common.{Option, Some, None}
use Rattle.tune_pages.specs.Kept.{HonestAt}

pub never_honest : {D : Type 0} (honest : D → Type 0) (never : (disk : D) → honest disk → ⊥) (disk : Option D) → HonestAt honest disk → ⊥
never_honest honest never None is = is
never_honest honest never (Some disk) is = never disk is
