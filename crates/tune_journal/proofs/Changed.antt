-- Lists of pages under a log.
use Rattle.std.proofs.Common.{◌≡◌, ◌≢◌, inl, inr, ℕ, zero, suc, ◌<◌, List, [], ◌∷◌, length, get_or, set, refl, sym, ◌∙◌, ap, arith}
use Rattle.std.proofs.lemmas.List.{same_lists, get_or-set_same, get_or-set_other, length-set}
use Rattle.std.proofs.lemmas.Bool.{cases_eq}
use Rattle.tune_journal.specs.ChangeList.{change_at}
use Rattle.tune_journal.specs.Pages.{changed_pages}

-- no entry names this page
abbrev pub Unnamed : List (ℕ × List ℕ) → ℕ → Type 0
Unnamed log p = (k : ℕ) → k < length log → (change_at log k).0 ≢ p

unnamed_more : (e : ℕ × List ℕ) (log : List (ℕ × List ℕ)) (p : ℕ) → e.0 ≢ p → Unnamed log p → Unnamed (e ∷ log) p
unnamed_more e log p ne rest zero lt = ne
unnamed_more e log p ne rest (suc k) lt = rest k (omega arith)

pub length-changed : (xs : List (List ℕ)) (log : List (ℕ × List ℕ)) → length (changed_pages xs log) ≡ length xs
length-changed xs [] = refl
length-changed xs (e ∷ log) = length-changed (set xs e.0 e.1) log ∙ length-set xs e.0 e.1

pub changed_unnamed : (xs : List (List ℕ)) (log : List (ℕ × List ℕ)) (p : ℕ) (d : List ℕ) → Unnamed log p → get_or (changed_pages xs log) p d ≡ get_or xs p d
changed_unnamed xs [] p d un = refl
changed_unnamed xs (e ∷ log) p d un =
    changed_unnamed (set xs e.0 e.1) log p d (λ k lt. un (suc k) (omega arith)) ∙ get_or-set_other xs e.0 p e.1 d (λ is. un 0 (omega arith) (sym is))

-- pages that a log does not name decide what it makes of them
pub changed_same : (xs ys : List (List ℕ)) (log : List (ℕ × List ℕ)) → length xs ≡ length ys
    → ((p : ℕ) (d : List ℕ) → p < length xs → Unnamed log p → get_or xs p d ≡ get_or ys p d) → changed_pages xs log ≡ changed_pages ys log
changed_same xs ys [] size same = same_lists xs ys size (λ p d lt. same p d lt (λ k none. absurd (omega arith)))
changed_same xs ys (e ∷ log) size same = changed_same (set xs e.0 e.1) (set ys e.0 e.1) log (length-set xs e.0 e.1 ∙ size ∙ sym (length-set ys e.0 e.1)) each
  where
    each : (p : ℕ) (d : List ℕ) → p < length (set xs e.0 e.1) → Unnamed log p → get_or (set xs e.0 e.1) p d ≡ get_or (set ys e.0 e.1) p d
    each p d lt un = elim (cases_eq p e.0) [
      | inl here ↦ (let at : e.0 < length xs = omega (arith, length-set xs e.0 e.1) in
          ap (λ (q : ℕ). get_or (set xs e.0 e.1) q d) here ∙ get_or-set_same xs e.0 e.1 d at ∙ sym (get_or-set_same ys e.0 e.1 d (omega (arith, size)))
          ∙ ap (λ (q : ℕ). get_or (set ys e.0 e.1) q d) (sym here))
      | inr other ↦ get_or-set_other xs e.0 p e.1 d other ∙ same p d (omega (arith, length-set xs e.0 e.1)) (unnamed_more e log p (λ is. other (sym is)) un)
          ∙ sym (get_or-set_other ys e.0 p e.1 d other)
    ]

-- A log whose images stand in their pages already changes nothing.
pub changed-changed : (xs : List (List ℕ)) (log : List (ℕ × List ℕ)) → changed_pages (changed_pages xs log) log ≡ changed_pages xs log
changed-changed xs log = changed_same (changed_pages xs log) xs log (length-changed xs log) (λ p d lt un. changed_unnamed xs log p d un)
