-- Looking for a page among the freed ones.
use Rattle.std.proofs.Common.{◌≡◌, inl, inr, ℕ, zero, suc, ◌<◌, ◌≤◌, List, [], ◌∷◌, length, get_or, refl, sym, ◌∙◌, ap, subst, arith}
use Rattle.std.specs.List.{Contains}
use Rattle.std.proofs.lemmas.Bool.{cases_order}
use Rattle.tune_pages.specs.Work.{Falls}

-- a page is above each that stands behind it
falls_at : (freed : List ℕ) (i j : ℕ) → Falls freed → i < j → j < length freed → get_or freed j 0 < get_or freed i 0
falls_at [] i j falls lt within = absurd (omega arith)
falls_at (x ∷ freed) i zero falls lt within = absurd (omega (arith, lt))
falls_at (x ∷ freed) zero (suc j) falls lt within = falls.0 j 0 (omega (arith, within))
falls_at (x ∷ freed) (suc i) (suc j) falls lt within = falls_at freed i j falls.1 (omega (arith, lt)) (omega (arith, within))

pub default_same : (freed : List ℕ) (k d e : ℕ) → k < length freed → get_or freed k d ≡ get_or freed k e
default_same [] k d e lt = absurd (omega arith)
default_same (x ∷ freed) zero d e lt = refl
default_same (x ∷ freed) (suc k) d e lt = default_same freed k d e (omega (arith, lt))

module _ (freed : List ℕ) (page at : ℕ) (falls : Falls freed) (above : (k : ℕ) → k < at → page < get_or freed k 0) (below : at < length freed
    → get_or freed at 0 ≤ page) where
  -- a page that is freed stands at the first place that is not above it
  pub found_at : Contains freed page → (at < length freed) × (get_or freed at 0 ≡ page)
  found_at (k, lt, is) = elim (cases_order at k) [
    | inl same ↦ (subst (λ (i : ℕ). i < length freed) (sym same) lt, ap (λ (i : ℕ). get_or freed i 0) same ∙ here)
    | inr (inl before) ↦ (let within : at < length freed = omega (arith, before, lt) in
        let less = falls_at freed at k falls before lt in
        let most = below within in
        absurd (omega (arith, less, most, here)))
    | inr (inr behind) ↦ (let more = above k behind in absurd (omega (arith, more, here)))
  ]
    where
      here : get_or freed k 0 ≡ page
      here = default_same freed k 0 page lt ∙ is

pub there_at : (freed : List ℕ) (page at : ℕ) → at < length freed → get_or freed at 0 ≡ page → Contains freed page
there_at freed page at lt is = (at, lt, default_same freed at page 0 lt ∙ is)
