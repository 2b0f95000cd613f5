-- Lists in tiers: rings of 1023 items, each turned so far, and what stands behind them.
use Rattle.std.specs.Prelude.{ℕ, ◌<◌, List, [], ◌∷◌, ◌++◌, take, drop}
use Rattle.std.specs.List.{AllByRecursion}

-- the list of a ring whose first item stands at this place
abbrev pub turned : {T : Type 0} → ℕ → List T → List T
turned turn ring = drop turn ring ++ take turn ring

-- the list of items in rings, each turned so far, with the others behind them
abbrev pub tiered : {T : Type 0} → List ℕ → List T → List T
tiered [] items = items
tiered (turn ∷ turns) items = turned turn (take 1023 items) ++ tiered turns (drop 1023 items)

-- each is a place in a ring
abbrev pub AreTurns : List ℕ → Type 0
AreTurns turns = AllByRecursion (λ turn. turn < 1023) turns

-- What contracts see: the items, and for how many there is memory.
pub record Tiered (T : Type 0) : Type 0 where
  pub items : List T
  pub room : ℕ
