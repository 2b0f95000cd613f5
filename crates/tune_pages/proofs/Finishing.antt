-- A work as a log.
use Rattle.std.proofs.Common.{◌≡◌, ◌≢◌, inl, inr, ℕ, zero, suc, ◌<◌, ◌≤◌, ◌-◌, ◌++◌, max, replicate, List, [], ◌∷◌, length, get_or, set, Bool}
use Rattle.std.proofs.Common.{true, false, Option, All, arith, refl, sym, ◌∙◌, ap, subst}
use Rattle.std.proofs.lemmas.List.{append-nil, get_or-set_other, get_or_past, length-set}
use Rattle.std.proofs.lemmas.List.Elements.{All-nil, All-cons}
use Rattle.std.proofs.lemmas.Bool.{cases_eq, cases_lt}
use Rattle.tune_pages.specs.Inside.HeldPages.{IsKept}
use Rattle.tune_pages.specs.Stand.{IsUsed, AllUsed, marked}
use Rattle.tune_pages.proofs.Chains.{length-marked}
use Rattle.tune_pages.proofs.Overlay.{length-front, front_below, front_behind, marked_other}
use Rattle.tune_journal.specs.Pages.{pages_after}
use Rattle.tune_pages.proofs.Puts.{HasImages}
use Rattle.tune_pages.specs.Work.{front_in_use}

pub set_false : (m : List Bool) (p : ℕ) → get_or (set m p false) p false ≡ false
set_false [] p = refl
set_false (x ∷ m) zero = refl
set_false (x ∷ m) (suc p) = set_false m p

pub used_within : (m : List Bool) (p : ℕ) → IsUsed m p → p < length m
used_within m p used = elim (cases_lt p (length m)) [
  | inl lt ↦ lt
  | inr ge ↦ (let past : get_or m p false ≡ false = get_or_past m p false (omega arith) in absurd cc)
]

pub false_keeps : (t : List ℕ) (m : List Bool) (p : ℕ) → IsUsed (marked false t m) p → IsUsed m p
false_keeps [] m p used = used
false_keeps (q ∷ t) m p used = elim (cases_eq p q) [
  | inl here ↦ (let before = false_keeps t (set m q false) p used in
      let none : get_or (set m q false) q false ≡ false = set_false m q in
      let now : get_or (set m q false) q false ≡ true = subst (λ (x : ℕ). get_or (set m q false) x false ≡ true) here before in absurd cc)
  | inr ne ↦ sym (get_or-set_other m q p false false ne) ∙ false_keeps t (set m q false) p used
]

pub used_below : (t : List ℕ) (m : List Bool) → AllUsed t m → All (λ p. p < length m) t
used_below [] m all = All-nil (λ p. p < length m)
used_below (q ∷ t) m all = All-cons (λ p. p < length m) q t (used_within m q all.0)
    (subst (λ (n : ℕ). All (λ p. p < n) t) (length-set m q false) (used_below t (set m q false) all.1))

pub kept_marks : {D : Type 0} (disk : Option D) (pages : List (List ℕ)) (used : List Bool) (limit : ℕ) (closed : Bool) (n : ℕ) (freed : List ℕ)
    (after : List Bool)
    → IsKept disk pages used limit closed → n ≤ length used → n ≤ length pages → All (λ p. p ≢ 0) freed → after ≡ marked false freed (front_in_use n used)
    → IsKept disk pages after limit closed
kept_marks disk pages used limit closed n freed after kept le few root is = record {
  is_held = kept.is_held;
  least = kept.least;
  most = kept.most;
  marks = ap (λ (l : List Bool). length l) is ∙ length-marked false freed (front_in_use n used) ∙ length-front n used le ∙ kept.marks;
  root = subst (λ (m : List Bool). IsUsed m 0) (sym is) (marked_other false freed (front_in_use n used) 0 false root ∙ front_used 0 kept.root);
  below = λ still p in_use. front_below_count still p (false_keeps freed (front_in_use n used) p (subst (λ (m : List Bool). IsUsed m p) is in_use));
  few = kept.few;
}
  where
    front_used : (p : ℕ) → IsUsed used p → IsUsed (front_in_use n used) p
    front_used p u = elim (cases_lt p n) [ inl low ↦ front_below n used p false low | inr high ↦ front_behind n used p false high ∙ u ]

    front_below_count : closed ≡ false → (p : ℕ) → IsUsed (front_in_use n used) p → p < length pages
    front_below_count still p u = elim (cases_lt p n) [ inl low ↦ omega arith | inr high ↦ kept.below still p (sym (front_behind n used p false high) ∙ u) ]

-- A work without a change leaves the pages as they are.
pub nothing_after : (pages : List (List ℕ)) (n : ℕ) (cs : List (ℕ × List ℕ)) → length cs ≡ 0 → HasImages (length pages) (max (length pages) n) cs
    → pages ≡ pages_after pages (max (length pages) n) cs
nothing_after pages n [] none names = sym (ap (λ (k : ℕ). pages ++ replicate k []) few ∙ append-nil pages)
  where
    few : max (length pages) n - length pages ≡ 0
    few = elim (cases_lt (length pages) (max (length pages) n)) [
      | inl lt ↦ absurd (let some = names (length pages) (omega arith) lt in let e : false ≡ true = some in cc)
      | inr ge ↦ omega arith
    ]
nothing_after pages n (c ∷ cs) none names = absurd (omega arith)
