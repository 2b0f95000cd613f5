-- Rings taken from those behind them, and put before others.
use Rattle.std.proofs.Common.{◌≡◌, ℕ, ◌<◌, List, [], ◌∷◌, ◌++◌, length, get_or, set, take, drop, arith, ap₂, refl}
use Rattle.std.proofs.lemmas.List.{take_at, drop_at}
use Rattle.tiered_vector.specs.Tiers.{tiered, turned}

-- the first ring, and the others
pub first_ring : {T : Type 0} (turns first rest : List ℕ) (items ring others : List T) → 0 < length turns → first ≡ take 1 turns → rest ≡ drop 1 turns
    → ring ≡ take 1023 items → others ≡ drop 1023 items → tiered turns items ≡ turned (get_or first 0 0) ring ++ tiered rest others
first_ring [] first rest items ring others some first_is rest_is ring_is others_is = absurd (omega arith)
first_ring (turn ∷ turns) first rest items ring others some first_is rest_is ring_is others_is =
    rw first_is (rw rest_is (rw ring_is (rw others_is refl)))

-- a ring put before others
pub ring_before : {T : Type 0} (first : List ℕ) (turn : ℕ) (turns : List ℕ) (ring items : List T) → length first ≡ 1 → length ring ≡ 1023
    → tiered (set first 0 turn ++ turns) (ring ++ items) ≡ turned turn ring ++ tiered turns items
ring_before [] turn turns ring items one is = absurd (omega arith)
ring_before (was ∷ []) turn turns ring items one is =
    ap₂ (λ front back. turned turn front ++ tiered turns back) (take_at ring items 1023 is) (drop_at ring items 1023 is)
ring_before (was ∷ other ∷ more) turn turns ring items one is = absurd (omega arith)
