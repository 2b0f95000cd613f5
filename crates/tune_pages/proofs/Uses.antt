-- Which pages are in use as a work stands, told by its parts.
use Rattle.std.proofs.Common.{◌≢◌, inl, inr, ℕ, ◌<◌, ◌≤◌, List, length, Bool, false, All, sym, ◌∙◌, subst, arith}
use Rattle.std.specs.List.{Contains}
use Rattle.std.proofs.lemmas.Bool.{cases_lt}
use Rattle.tune_pages.specs.Stand.{IsUsed}
use Rattle.tune_pages.specs.Work.{front_in_use, used_in, stand_on, FitsOn}
use Rattle.tune_pages.specs.declared.work.Work.{Work}
use Rattle.tune_pages.proofs.Finishing.{false_keeps}
use Rattle.tune_pages.proofs.Giving.{not_freed}
use Rattle.tune_pages.proofs.Marks.{apart_or, apart_all, all_apart, not_both}
use Rattle.tune_pages.proofs.Overlay.{front_below, front_behind, marked_other}
use Rattle.tune_pages.proofs.Taking.{stand_used, in_count}
use Rattle.tune_pages.proofs.Looking.{stand_count}

module _ (pages : List (List ℕ)) (used : List Bool) (w : Work) (p : ℕ) where
  to_stand : IsUsed (used_in used w) p → IsUsed (stand_on pages used w).used p
  to_stand is = subst (λ (m : List Bool). IsUsed m p) (sym (stand_used pages used w)) is

  pub from_stand : IsUsed (stand_on pages used w).used p → IsUsed (used_in used w) p
  from_stand is = subst (λ (m : List Bool). IsUsed m p) (stand_used pages used w) is

  -- a freed page is not in use
  pub freed_unused : Contains w.freed.items p → IsUsed (stand_on pages used w).used p → ⊥
  freed_unused has is = not_both p w.freed.items has (all_apart p w.freed.items (not_freed w.freed.items (front_in_use w.frontier used) p (from_stand is)))

  module _ (kept : Contains w.freed.items p → ⊥) where
    apart : All (λ q. q ≢ p) w.freed.items
    apart = elim (apart_or p w.freed.items) [ inl has ↦ absurd (kept has) | inr away ↦ apart_all p w.freed.items away ]

    -- one below the frontier is
    pub low_used : p < w.frontier → IsUsed (stand_on pages used w).used p
    low_used lt = to_stand (marked_other false w.freed.items (front_in_use w.frontier used) p false apart ∙ front_below w.frontier used p false lt)

    -- and one behind it where the table says so
    pub high_used : w.frontier ≤ p → IsUsed used p → IsUsed (stand_on pages used w).used p
    high_used ge is = to_stand (marked_other false w.freed.items (front_in_use w.frontier used) p false apart ∙ front_behind w.frontier used p false ge ∙ is)

  pub high_marked : w.frontier ≤ p → IsUsed (stand_on pages used w).used p → IsUsed used p
  high_marked ge is = sym (front_behind w.frontier used p false ge) ∙ false_keeps w.freed.items (front_in_use w.frontier used) p (from_stand is)

-- WHAT HOLDS OF EVERY WORK
pub stand_root : (pages : List (List ℕ)) (used : List Bool) (w : Work) → FitsOn pages used w → IsUsed (stand_on pages used w).used 0
stand_root pages used w fits = elim (cases_lt 0 w.frontier) [
  | inl low ↦ low_used pages used w 0 kept low
  | inr high ↦ high_used pages used w 0 kept high fits.root
]
  where
    kept : Contains w.freed.items 0 → ⊥
    kept has = not_both 0 w.freed.items has (all_apart 0 w.freed.items fits.no_root)

pub stand_inside : (pages : List (List ℕ)) (used : List Bool) (w : Work) (p : ℕ) → FitsOn pages used w → IsUsed (stand_on pages used w).used p
    → p < length (stand_on pages used w).pages
stand_inside pages used w p fits is =
    let lt = in_count pages used w p fits.inside (from_stand pages used w p is) in
    omega (arith, lt, stand_count pages used w)
