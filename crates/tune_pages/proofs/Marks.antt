-- Marks of pages, and trails that are in use.
use Rattle.std.proofs.Common.{◌≡◌, ◌≢◌, ◌⊎◌, inl, inr, ℕ, zero, suc, ◌+◌, ◌<◌, ◌≤◌, List, [], ◌∷◌, ◌++◌, length, get_or, set}
use Rattle.std.proofs.Common.{Bool, true, false, cond, All, refl, sym, ◌∙◌, subst, arith}
use Rattle.std.specs.List.{count_by, sum_by, Contains}
use Rattle.std.proofs.lemmas.List.{get_or-set_other, get_or_past}
use Rattle.std.proofs.lemmas.List.Elements.{All-nil, All-cons, All-head, All-tail}
use Rattle.std.proofs.lemmas.List.Sums.{sum_by-set, count_by-le-length}
use Rattle.std.proofs.lemmas.Bool.{cases_eq, cases_lt}
use Rattle.tune_pages.specs.Stand.{IsUsed, IsFree, AllUsed, marked}
use Rattle.tune_pages.specs.Frame.{Apart, AllApart}
use Rattle.tune_pages.proofs.Finishing.{set_false, false_keeps, used_within}
use Rattle.tune_pages.proofs.Putting.{used_either}

-- PAGES THAT ARE APART
pub apart_all : (page : ℕ) (ps : List ℕ) → Apart page ps → All (λ q. q ≢ page) ps
apart_all page [] a = All-nil (λ q. q ≢ page)
apart_all page (p ∷ ps) a = All-cons (λ q. q ≢ page) p ps a.0 (apart_all page ps a.1)

pub all_apart : (page : ℕ) (ps : List ℕ) → All (λ q. q ≢ page) ps → Apart page ps
all_apart page [] a = tt
all_apart page (p ∷ ps) a = (All-head (λ q. q ≢ page) p ps a, all_apart page ps (All-tail (λ q. q ≢ page) p ps a))

contains_first : (x : ℕ) (xs : List ℕ) → Contains (x ∷ xs) x
contains_first x xs = (0, omega arith, refl)

contains_later : (y : ℕ) (xs : List ℕ) (x : ℕ) → Contains xs x → Contains (y ∷ xs) x
contains_later y xs x h = (suc h.0, (let l = h.1 in omega arith), h.2)

contains_cases : (y : ℕ) (xs : List ℕ) (x : ℕ) → Contains (y ∷ xs) x → (y ≡ x) ⊎ Contains xs x
contains_cases y xs x (zero, l, e) = inl e
contains_cases y xs x (suc k, l, e) = inr (k, omega arith, e)

pub contains_none : (x : ℕ) → Contains [] x → ⊥
contains_none x (k, l, e) = omega arith

-- a page is one of these, or none of them
pub apart_or : (page : ℕ) (ps : List ℕ) → Contains ps page ⊎ Apart page ps
apart_or page [] = inr tt
apart_or page (p ∷ ps) = elim (cases_eq p page) [
  | inl here ↦ inl (subst (λ (x : ℕ). Contains (p ∷ ps) x) here (contains_first p ps))
  | inr other ↦ elim (apart_or page ps) [ inl c ↦ inl (contains_later p ps page c) | inr a ↦ inr (other, a) ]
]

-- and not both
pub not_both : (page : ℕ) (ps : List ℕ) → Contains ps page → Apart page ps → ⊥
not_both page [] c a = contains_none page c
not_both page (p ∷ ps) c a = elim (contains_cases p ps page c) [ inl e ↦ a.0 e | inr l ↦ not_both page ps l a.1 ]

pub apart_join : (page : ℕ) (ps qs : List ℕ) → Apart page ps → Apart page qs → Apart page (ps ++ qs)
apart_join page [] qs a b = b
apart_join page (p ∷ ps) qs a b = (a.0, apart_join page ps qs a.1 b)

pub apart_left : (page : ℕ) (ps qs : List ℕ) → Apart page (ps ++ qs) → Apart page ps
apart_left page [] qs a = tt
apart_left page (p ∷ ps) qs a = (a.0, apart_left page ps qs a.1)

pub apart_right : (page : ℕ) (ps qs : List ℕ) → Apart page (ps ++ qs) → Apart page qs
apart_right page [] qs a = a
apart_right page (p ∷ ps) qs a = apart_right page ps qs a.1

-- no page of some that are apart from others is one of the others
pub apart_of : (ps others : List ℕ) (page : ℕ) → AllApart ps others → Contains ps page → Apart page others
apart_of [] others page all c = absurd (contains_none page c)
apart_of (p ∷ ps) others page all c = elim (contains_cases p ps page c) [
  | inl e ↦ subst (λ (x : ℕ). Apart x others) e all.0
  | inr l ↦ apart_of ps others page all.1 l
]

-- MARKS OF PAGES THAT A CHANGE DOES NOT REACH
-- these pages have the same marks in both
abbrev pub SameMarks : List ℕ → List Bool → List Bool → Type 0
SameMarks trail old new = All (λ p. get_or new p false ≡ get_or old p false) trail

same_set : (old new : List Bool) (p q : ℕ) → get_or new q false ≡ get_or old q false → get_or (set new p false) q false ≡ get_or (set old p false) q false
same_set old new p q same = elim (cases_eq q p) [
  | inl here ↦ subst (λ (x : ℕ). get_or (set new p false) x false ≡ get_or (set old p false) x false) (sym here) (set_false new p ∙ sym (set_false old p))
  | inr other ↦ get_or-set_other new p q false false other ∙ same ∙ sym (get_or-set_other old p q false false other)
]

-- a trail whose marks are kept is in use as before
pub used_kept : (trail : List ℕ) (old new : List Bool) → SameMarks trail old new → AllUsed trail old → AllUsed trail new
used_kept [] old new same used = tt
used_kept (p ∷ trail) old new same used = (
  All-head (λ q. get_or new q false ≡ get_or old q false) p trail same ∙ used.0,
  used_kept trail (set old p false) (set new p false) (λ k d lt. same_set old new p (get_or trail k d) (All-tail
      (λ q. get_or new q false ≡ get_or old q false) p trail same k d lt)) used.1,
)

-- a page in use is none of those that are free
pub free_not_used : (m : List Bool) (p : ℕ) → IsFree m p → IsUsed m p → ⊥
free_not_used m p free used =
    let yes' : get_or m p true ≡ true = used_either m p used in
    let clash : false ≡ true = sym free ∙ yes' in
    absurd (let e = clash in cc)

pub free_in : (m : List Bool) (p : ℕ) → IsFree m p → p < length m
free_in m p free = elim (cases_lt p (length m)) [
  | inl lt ↦ lt
  | inr ge ↦ (let past : get_or m p true ≡ true = get_or_past m p true (omega arith) in absurd cc)
]

-- each page of a trail in use is in use, and comes once
pub used_each : (trail : List ℕ) (m : List Bool) → AllUsed trail m → All (λ p. IsUsed m p) trail
used_each [] m used = All-nil (λ p. IsUsed m p)
used_each (q ∷ trail) m used = All-cons (λ p. IsUsed m p) q trail used.0
    (λ k d lt. false_keeps (q ∷ []) m (get_or trail k d) (used_each trail (set m q false) used.1 k d lt))

-- the page in the middle of a trail is in use, also when those before it are free again
pub used_middle : (t : List ℕ) (p : ℕ) (rest : List ℕ) (m : List Bool) → AllUsed (t ++ (p ∷ rest)) m → IsUsed (marked false t m) p
used_middle [] p rest m used = used.0
used_middle (q ∷ t) p rest m used = used_middle t p rest (set m q false) used.1

-- HOW LONG A TRAIL CAN BE
-- a mark that is taken away counts no more
pub count_unset : (m : List Bool) (p : ℕ) → IsUsed m p → count_by (λ b. b) (set m p false) + 1 ≡ count_by (λ b. b) m
count_unset m p used =
    let step = sum_by-set (λ (b : Bool). cond b 1 0) m p false false (used_within m p used) in
    subst (λ (b : Bool). sum_by (λ x. cond x 1 0) (set m p false) + cond b 1 0 ≡ sum_by (λ x. cond x 1 0) m + 0) used step ∙ omega arith

-- each page of a trail in use counts
pub used_count : (trail : List ℕ) (m : List Bool) → AllUsed trail m → length trail + count_by (λ b. b) (marked false trail m) ≡ count_by (λ b. b) m
used_count [] m used = omega arith
used_count (p ∷ trail) m used =
    let rest = used_count trail (set m p false) used.1 in
    let one = count_unset m p used.0 in
    omega (arith, rest, one)

pub used_few : (trail : List ℕ) (m : List Bool) → AllUsed trail m → length trail ≤ length m
used_few trail m used = omega (arith, used_count trail m used, count_by-le-length (λ (b : Bool). b) m)
