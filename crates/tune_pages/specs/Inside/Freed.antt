-- The pages that a work freed: they stand in falling order.
use Rattle.std.specs.Prelude.{◌≡◌, ◌⊎◌, ℕ, ◌<◌, ◌≤◌, List, [], ◌∷◌, ◌++◌, All}

-- The page was the last of the freed ones and is so no more, or it was not and they stay.
abbrev pub Unfrees : ℕ → List ℕ → List ℕ → Type 0
Unfrees p old new =
    (old ≡ new ++ p ∷ []) ⊎ ((new ≡ old) × ((front : List ℕ) → old ≡ front ++ p ∷ [] → ⊥))

-- the last of the freed pages, or the limit where none is
abbrev pub IsEnd : ℕ → ℕ → List ℕ → Type 0
IsEnd end limit freed =
    ((freed ≡ []) × (end ≡ limit)) ⊎ ((front : List ℕ) × (freed ≡ front ++ end ∷ []))

-- The page stands behind those above it, and before the others.
pub record IsPutIn (p : ℕ) (old new : List ℕ) : Type 0 where
  pub front : List ℕ
  pub back : List ℕ
  pub old_is : old ≡ front ++ back
  pub new_is : new ≡ front ++ p ∷ back
  pub above : All (λ q. p < q) front
  pub below : (q : ℕ) (rest : List ℕ) → back ≡ q ∷ rest → q ≤ p
