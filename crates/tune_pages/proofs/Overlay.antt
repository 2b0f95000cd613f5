-- Which pages are in use as a work stands.
use Rattle.std.proofs.Common.{◌≡◌, ◌≢◌, inl, inr, ℕ, zero, suc, ◌+◌, ◌-◌, ◌<◌, ◌≤◌, List, [], ◌∷◌, ◌++◌, length, get_or, set, drop, replicate}
use Rattle.std.proofs.Common.{Bool, true, false, refl, sym, ◌∙◌, ap, arith}
use Rattle.std.proofs.lemmas.List.{same_lists, get_or-set_same, get_or-set_other, get_or_append_left, get_or-append_right}
use Rattle.std.proofs.lemmas.List.{get_or-replicate, get_or-drop, length-replicate, length-set, length-drop, length-append}
use Rattle.std.proofs.lemmas.List.Elements.{All-tail}
use Rattle.std.proofs.lemmas.Bool.{cases_eq, cases_lt}
use Rattle.tune_pages.specs.Stand.{IsUsed, marked}
use Rattle.tune_pages.specs.Work.{front_in_use}
use Rattle.tune_pages.proofs.Putting.{Apart}
use Rattle.tune_pages.proofs.Chains.{marked_more}

pub length-front : (n : ℕ) (used : List Bool) → n ≤ length used → length (front_in_use n used) ≡ length used
length-front n used le = omega (arith, length-append (replicate n true) (drop n used), length-replicate {A = Bool}, length-drop n used)

pub front_below : (n : ℕ) (used : List Bool) (q : ℕ) (d : Bool) → q < n → get_or (front_in_use n used) q d ≡ true
front_below n used q d lt = get_or_append_left (replicate n true) (drop n used) d q (omega (arith, length-replicate n true)) ∙ get_or-replicate n q true d lt

pub front_behind : (n : ℕ) (used : List Bool) (q : ℕ) (d : Bool) → n ≤ q → get_or (front_in_use n used) q d ≡ get_or used q d
front_behind n used q d le = get_or-append_right (replicate n true) (drop n used) n q d (length-replicate n true) le ∙ get_or-drop n used (q - n) d
    ∙ ap (λ (i : ℕ). get_or used i d) (omega arith)

pub get_or_default_same : (m : List Bool) (q : ℕ) (d e : Bool) → q < length m → get_or m q d ≡ get_or m q e
get_or_default_same [] q d e lt = absurd (omega arith)
get_or_default_same (x ∷ m) zero d e lt = refl
get_or_default_same (x ∷ m) (suc q) d e lt = get_or_default_same m q d e (omega arith)

pub set_set : (m : List Bool) (p : ℕ) (a b : Bool) → set (set m p a) p b ≡ set m p b
set_set [] p a b = refl
set_set (x ∷ m) zero a b = refl
set_set (x ∷ m) (suc p) a b = ap (λ (l : List Bool). x ∷ l) (set_set m p a b)

pub marked_other : (b : Bool) (t : List ℕ) (m : List Bool) (p : ℕ) (d : Bool) → Apart t p → get_or (marked b t m) p d ≡ get_or m p d
marked_other b [] m p d apart = refl
marked_other b (q ∷ t) m p d apart = marked_other b t (set m q b) p d (All-tail (λ x. x ≢ p) q t apart)
    ∙ get_or-set_other m q p b d (λ is. apart 0 0 (omega arith) (sym is))

-- The frontier moves past pages in use, and past one more.
pub front_on : (n p : ℕ) (used : List Bool) → n ≤ p → p < length used → ((q : ℕ) → n ≤ q → q < p → IsUsed used q)
    → front_in_use (p + 1) used ≡ set (front_in_use n used) p true
front_on n p used le lt full = same_lists (front_in_use (p + 1) used) (set (front_in_use n used) p true) (length-front (p + 1) used (omega arith)
    ∙ sym (length-set (front_in_use n used) p true ∙ length-front n used (omega arith)))
    (λ q d lt'. each q d (omega (arith, length-front (p + 1) used (omega arith))))
  where
    in_use : (q : ℕ) (d : Bool) → n ≤ q → q < p → get_or used q d ≡ true
    in_use q d le' lt' = get_or_default_same used q d false (omega arith) ∙ full q le' lt'

    other : (q : ℕ) (d : Bool) → q < length used → q ≢ p → get_or (front_in_use (p + 1) used) q d ≡ get_or (front_in_use n used) q d
    other q d lt' ne = elim (cases_lt q p) [
      | inl below ↦ elim (cases_lt q n) [
        | inl low ↦ front_below (p + 1) used q d (omega arith) ∙ sym (front_below n used q d low)
        | inr high ↦ front_below (p + 1) used q d (omega arith) ∙ sym (front_behind n used q d high ∙ in_use q d high below)
      ]
      | inr above ↦ front_behind (p + 1) used q d (omega arith) ∙ sym (front_behind n used q d (omega arith))
    ]

    each : (q : ℕ) (d : Bool) → q < length used → get_or (front_in_use (p + 1) used) q d ≡ get_or (set (front_in_use n used) p true) q d
    each q d lt' = elim (cases_eq q p) [
      | inl here ↦ front_below (p + 1) used q d (omega arith)
          ∙ sym (ap (λ (i : ℕ). get_or (set (front_in_use n used) p true) i d) here
          ∙ get_or-set_same (front_in_use n used) p true d (omega (arith, length-front n used (omega arith))))
      | inr ne ↦ other q d lt' ne ∙ sym (get_or-set_other (front_in_use n used) p q true d ne)
    ]

pub set_apart : (m : List Bool) (p q : ℕ) (a b : Bool) → p ≢ q → set (set m p a) q b ≡ set (set m q b) p a
set_apart [] p q a b ne = refl
set_apart (x ∷ m) zero zero a b ne = absurd (ne refl)
set_apart (x ∷ m) zero (suc q) a b ne = refl
set_apart (x ∷ m) (suc p) zero a b ne = refl
set_apart (x ∷ m) (suc p) (suc q) a b ne = ap (λ (l : List Bool). x ∷ l) (set_apart m p q a b (λ is. ne (ap suc is)))

-- a mark that the trail does not reach
pub marked_apart : (b : Bool) (t : List ℕ) (m : List Bool) (p : ℕ) (c : Bool) → Apart t p → marked b t (set m p c) ≡ set (marked b t m) p c
marked_apart b [] m p c apart = refl
marked_apart b (q ∷ t) m p c apart =
    ap (λ (l : List Bool). marked b t l) (set_apart m p q c b (λ is. apart 0 0 (omega arith) (sym is)))
    ∙ marked_apart b t (set m q b) p c (All-tail (λ x. x ≢ p) q t apart)

-- ALLOCATING AT THE FRONTIER.
pub use_next : (freed : List ℕ) (n p : ℕ) (used : List Bool) → n ≤ p → p < length used → ((q : ℕ) → n ≤ q → q < p → IsUsed used q) → Apart freed p
    → marked false freed (front_in_use (p + 1) used) ≡ set (marked false freed (front_in_use n used)) p true
use_next freed n p used le lt full apart = ap (λ (l : List Bool). marked false freed l) (front_on n p used le lt full)
    ∙ marked_apart false freed (front_in_use n used) p true apart

-- ALLOCATING A FREED PAGE, the last of the list.
pub use_freed : (freed : List ℕ) (n p : ℕ) (used : List Bool) → n ≤ p → p < length used → ((q : ℕ) → n ≤ q → q < p → IsUsed used q) → Apart freed p
    → marked false freed (front_in_use (p + 1) used) ≡ set (marked false (freed ++ p ∷ []) (front_in_use n used)) p true
use_freed freed n p used le lt full apart = use_next freed n p used le lt full apart
    ∙ sym (ap (λ (l : List Bool). set l p true) (marked_more false freed p (front_in_use n used))
    ∙ set_set (marked false freed (front_in_use n used)) p false true)

-- WHICH PAGE IS THE LEAST FREE: no freed page is below it, and all of the table up to it is in use.
pub use_below : (freed : List ℕ) (n p : ℕ) (used : List Bool) (q : ℕ) → ((q : ℕ) → n ≤ q → q < p → IsUsed used q) → q < p → Apart freed q
    → IsUsed (marked false freed (front_in_use n used)) q
use_below freed n p used q full lt apart = marked_other false freed (front_in_use n used) q false apart ∙ elim (cases_lt q n) [
  | inl low ↦ front_below n used q false low
  | inr high ↦ front_behind n used q false high ∙ full q high lt
]

same_set : (m : List Bool) (p : ℕ) → IsUsed m p → set m p true ≡ m
same_set [] p used = refl
same_set (x ∷ m) zero used = ap (λ (b : Bool). b ∷ m) (sym used)
same_set (x ∷ m) (suc p) used = ap (λ (l : List Bool). x ∷ l) (same_set m p used)

-- ALLOCATING A FREED PAGE below the frontier, which stays.
pub use_low : (freed : List ℕ) (n p : ℕ) (used : List Bool) → p < n → Apart freed p
    → marked false freed (front_in_use n used) ≡ set (marked false (freed ++ p ∷ []) (front_in_use n used)) p true
use_low freed n p used lt apart = sym (ap (λ (l : List Bool). set l p true) (marked_more false freed p (front_in_use n used))
    ∙ set_set (marked false freed (front_in_use n used)) p false true
    ∙ same_set (marked false freed (front_in_use n used)) p (marked_other false freed (front_in_use n used) p false apart ∙ front_below n used p false lt))
