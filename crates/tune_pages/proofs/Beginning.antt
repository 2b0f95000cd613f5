-- A work that was just begun, and the lowest page from which the next one looks for free pages.
use Rattle.std.proofs.Common.{◌≡◌, ◌≢◌, inl, inr, ℕ, zero, suc, ◌-◌, ◌<◌, ◌≤◌, max, List, [], length, get_or, Bool, false, All, sym}
use Rattle.std.proofs.Common.{◌∙◌, ap, subst, arith}
use Rattle.std.proofs.lemmas.List.{same_lists}
use Rattle.std.proofs.lemmas.List.Elements.{All-nil}
use Rattle.std.proofs.lemmas.Bool.{cases_eq, cases_lt}
use Rattle.tune_journal.specs.Pages.{pages_after}
use Rattle.tune_journal.proofs.Puts.{nothing}
use Rattle.tune_pages.specs.Inside.HeldPages.{AllUsedBelow}
use Rattle.tune_pages.specs.Stand.{Stand, IsUsed, AllUsed, marked}
use Rattle.tune_pages.specs.Work.{front_in_use, used_in, page_count_in, stand_on, FitsOn, Falls}
use Rattle.tune_pages.specs.declared.work.Work.{Work}
use Rattle.tune_pages.proofs.Finishing.{used_within}
use Rattle.tune_pages.proofs.Overlay.{length-front, front_below, front_behind, marked_other, get_or_default_same}
use Rattle.tune_pages.proofs.Puts.{Rising}
use Rattle.tune_pages.proofs.Taking.{Below}

low_within : (n : ℕ) (used : List Bool) → AllUsedBelow n used → n ≤ length used
low_within zero used all = omega arith
low_within (suc n) used all = (let lt = used_within used n (all n (omega arith)) in omega (arith, lt))

-- marks that are set already
pub front_low : (n : ℕ) (used : List Bool) → AllUsedBelow n used → front_in_use n used ≡ used
front_low n used all = same_lists (front_in_use n used) used (length-front n used (low_within n used all))
    (λ q d lt. each q d (omega (arith, lt, length-front n used (low_within n used all))))
  where
    each : (q : ℕ) (d : Bool) → q < length used → get_or (front_in_use n used) q d ≡ get_or used q d
    each q d lt = elim (cases_lt q n) [
      | inl low ↦ front_below n used q d low ∙ sym (get_or_default_same used q d false lt ∙ all q low)
      | inr high ↦ front_behind n used q d high
    ]

-- BEGINNING
module _ (pages : List (List ℕ)) (used : List Bool) (low : ℕ) (w : Work) (all : AllUsedBelow low used) (below : Below used pages)
    (ch : w.changes ≡ []) (fr : w.frontier ≡ low) (fd : w.freed.items ≡ []) where
  few : low ≤ length pages
  few = elim (cases_eq low 0) [
    | inl none ↦ omega (arith, none)
    | inr some ↦ (let lt = below (low - 1) (all (low - 1) (omega (arith, some))) in omega (arith, lt))
  ]

  same_count : page_count_in pages w ≡ length pages
  same_count = omega (arith, fr, few)

  pub begin_fits : IsUsed used 0 → FitsOn pages used w
  begin_fits root = record {
    root = root;
    inside = below;
    within = omega (arith, fr, low_within low used all);
    rising = subst Rising (sym ch) rising_none;
    below = subst (All (λ c. c.0 < page_count_in pages w)) (sym ch) (All-nil (λ (c : ℕ × List ℕ). c.0 < page_count_in pages w));
    names = λ p from lt. absurd (omega (arith, from, lt, same_count));
    falls = subst Falls (sym fd) tt;
    freed = subst (λ (l : List ℕ). AllUsed l (front_in_use w.frontier used)) (sym fd) tt;
    no_root = subst (All (λ q. q ≢ 0)) (sym fd) (All-nil (λ (q : ℕ). q ≢ 0));
  }
    where
      rising_none : Rising []
      rising_none = λ k lt. absurd (omega (arith, lt))

  abbrev made : List (List ℕ) → List Bool → Stand
  made x y = record { pages = x; used = y }

  begin_pages : pages_after pages (page_count_in pages w) w.changes ≡ pages
  begin_pages = ap (λ (n : ℕ). pages_after pages n w.changes) same_count ∙ ap (pages_after pages (length pages)) ch ∙ nothing pages

  begin_used : used_in used w ≡ used
  begin_used = ap (λ (l : List ℕ). marked false l (front_in_use w.frontier used)) fd ∙ ap (λ (n : ℕ). front_in_use n used) fr ∙ front_low low used all

  pub begin_stand : stand_on pages used w ≡ record { pages = pages; used = used }
  unfolding stand_on
  begin_stand = ap (λ (x : List (List ℕ)). made x (used_in used w)) begin_pages ∙ ap (made pages) begin_used

-- After a work no page below this one is free.
pub low_after : (n low m : ℕ) (used : List Bool) (freed : List ℕ) (after : List Bool) → AllUsedBelow low used → m ≤ max n low → All (λ q. m ≤ q) freed
    → after ≡ marked false freed (front_in_use n used) → AllUsedBelow m after
low_after n low m used freed after all most above is = λ q lt.
    (let apart : All (λ p. p ≢ q) freed = λ k d within. (let a = above k d within in λ same. absurd (omega (arith, a, lt, same))) in
    subst (λ (l : List Bool). IsUsed l q) (sym is) (marked_other false freed (front_in_use n used) q false apart ∙ elim (cases_lt q n) [
      | inl before ↦ front_below n used q false before
      | inr behind ↦ front_behind n used q false behind ∙ all q (omega (arith, lt, most, behind))
    ]))
