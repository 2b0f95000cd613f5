-- Marks of which only the first are written: those behind them are not in use.
use Rattle.std.proofs.Common.{◌≡◌, inl, inr, ℕ, ◌-◌, ◌<◌, ◌≤◌, List, [], ◌∷◌, ◌++◌, length, get_or, set, take, drop, replicate}
use Rattle.std.proofs.Common.{Bool, true, false, All, refl, sym, ◌∙◌, ap, arith}
use Rattle.std.proofs.lemmas.List.{append_assoc, same_lists, get_or_append_left, get_or-append_right, get_or-replicate, get_or-take}
use Rattle.std.proofs.lemmas.List.{get_or_past, length-append, length-replicate, length-set, length-take, drop-append-le}
use Rattle.std.proofs.lemmas.List.{replicate-append-replicate, set-append_left}
use Rattle.std.proofs.lemmas.List.Elements.{All-head, All-tail}
use Rattle.std.proofs.lemmas.Bool.{cases_lt}
use Rattle.tune_pages.specs.Stand.{IsUsed, AllUsed, marked}
use Rattle.tune_pages.specs.Work.{front_in_use}
use Rattle.tune_pages.proofs.Finishing.{used_within}
use Rattle.tune_pages.proofs.Marks.{used_each}
use Rattle.tune_pages.proofs.Overlay.{length-front}

-- so many marks, of which these are the first
abbrev pub laid : List Bool → ℕ → List Bool
laid m n = m ++ replicate (n - length m) false

pub length-laid : (m : List Bool) (n : ℕ) → length m ≤ n → length (laid m n) ≡ n
length-laid m n le = omega (arith, le, length-append m (replicate (n - length m) false), length-replicate (n - length m) false)

-- A MARK
pub laid_before : (m : List Bool) (n p : ℕ) (d : Bool) → p < length m → get_or (laid m n) p d ≡ get_or m p d
laid_before m n p d lt = get_or_append_left m (replicate (n - length m) false) d p lt

pub laid_behind : (m : List Bool) (n p : ℕ) (d : Bool) → length m ≤ p → p < n → get_or (laid m n) p d ≡ false
laid_behind m n p d ge lt = get_or-append_right m (replicate (n - length m) false) (length m) p d refl ge
    ∙ get_or-replicate (n - length m) (p - length m) false d (omega (arith, ge, lt))

laid_past : (m : List Bool) (n p : ℕ) → length m ≤ p → get_or (laid m n) p false ≡ false
laid_past m n p ge = elim (cases_lt p n) [
  | inl lt ↦ laid_behind m n p false ge lt
  | inr past ↦ get_or_past (laid m n) p false
      (omega (arith, ge, past, length-append m (replicate (n - length m) false), length-replicate (n - length m) false))
]

pub laid_used : (m : List Bool) (n p : ℕ) → IsUsed (laid m n) p → IsUsed m p
laid_used m n p used = elim (cases_lt p (length m)) [
  | inl lt ↦ sym (laid_before m n p false lt) ∙ used
  | inr ge ↦ (let none : get_or (laid m n) p false ≡ false = laid_past m n p ge in
      let clash : false ≡ true = sym none ∙ used in absurd (let e = clash in cc))
]

-- pages in use are written
pub written_below : (t : List ℕ) (m : List Bool) (n : ℕ) → AllUsed t (laid m n) → All (λ p. p < length m) t
written_below t m n used = λ k d lt. used_within m (get_or t k d) (laid_used m n (get_or t k d) (used_each t (laid m n) used k d lt))

-- MORE THAT ARE WRITTEN
pub laid_more : (m : List Bool) (k n : ℕ) → length m ≤ k → k ≤ n → laid (laid m k) n ≡ laid m n
laid_more m k n le most = ap (λ (i : ℕ). laid m k ++ replicate i false) (omega (arith, length-laid m k le))
    ∙ append_assoc m (replicate (k - length m) false) (replicate (n - k) false)
    ∙ ap (λ (l : List Bool). m ++ l) (replicate-append-replicate (k - length m) (n - k) false
    ∙ ap (λ (i : ℕ). replicate i false) (omega (arith, le, most)))

-- the front of the written ones is that of all
pub front_laid : (k : ℕ) (m : List Bool) (n : ℕ) → k ≤ length m → laid (front_in_use k m) n ≡ front_in_use k (laid m n)
front_laid k m n le = ap (λ (i : ℕ). front_in_use k m ++ replicate (n - i) false) (length-front k m le)
    ∙ append_assoc (replicate k true) (drop k m) (replicate (n - length m) false)
    ∙ ap (λ (l : List Bool). replicate k true ++ l) (sym (drop-append-le k m (replicate (n - length m) false) le))

-- and so are written ones that are marked
pub marked_laid : (b : Bool) (t : List ℕ) (m : List Bool) (n : ℕ) → All (λ p. p < length m) t → laid (marked b t m) n ≡ marked b t (laid m n)
marked_laid b [] m n all = refl
marked_laid b (p ∷ t) m n all = marked_laid b t (set m p b) n
    (λ k d lt. (let a = All-tail (λ q. q < length m) p t all k d lt in omega (arith, a, length-set m p b)))
    ∙ ap (λ (l : List Bool). marked b t l) (ap (λ (i : ℕ). set m p b ++ replicate (n - i) false) (length-set m p b)
    ∙ sym (set-append_left m (replicate (n - length m) false) p b (All-head (λ q. q < length m) p t all)))

-- ANOTHER COUNT
pub laid_anew : (m : List Bool) (n k : ℕ) → length m ≤ n → laid (take k m) k ≡ take k (laid m n ++ replicate (k - n) false)
laid_anew m n k le = same_lists (laid (take k m) k) (take k (laid m n ++ replicate (k - n) false)) (here ∙ sym there)
    (λ q d lt. each q d (omega (arith, lt, here)))
  where
    short : length (take k m) ≤ k
    short = omega (arith, length-take k m)

    here : length (laid (take k m) k) ≡ k
    here = length-laid (take k m) k short

    there : length (take k (laid m n ++ replicate (k - n) false)) ≡ k
    there = omega (
      arith,
      length-take k (laid m n ++ replicate (k - n) false),
      length-append (laid m n) (replicate (k - n) false),
      length-laid m n le,
      length-replicate (k - n) false,
    )

    all : (q : ℕ) (d : Bool) → q < k → length m ≤ q → get_or (laid m n ++ replicate (k - n) false) q d ≡ false
    all q d lt ge = elim (cases_lt q n) [
      | inl low ↦ get_or_append_left (laid m n) (replicate (k - n) false) d q (omega (arith, low, length-laid m n le)) ∙ laid_behind m n q d ge low
      | inr high ↦ get_or-append_right (laid m n) (replicate (k - n) false) n q d (length-laid m n le) high
          ∙ get_or-replicate (k - n) (q - n) false d (omega (arith, high, lt))
    ]

    each : (q : ℕ) (d : Bool) → q < k → get_or (laid (take k m) k) q d ≡ get_or (take k (laid m n ++ replicate (k - n) false)) q d
    each q d lt = elim (cases_lt q (length m)) [
      | inl low ↦ laid_before (take k m) k q d (omega (arith, low, lt, length-take k m)) ∙ get_or-take k m q d lt
          ∙ sym (get_or-take k (laid m n ++ replicate (k - n) false) q d lt
          ∙ get_or_append_left (laid m n) (replicate (k - n) false) d q (omega (arith, low, le, length-laid m n le)) ∙ laid_before m n q d low)
      | inr high ↦ laid_behind (take k m) k q d (omega (arith, high, length-take k m)) lt
          ∙ sym (get_or-take k (laid m n ++ replicate (k - n) false) q d lt ∙ all q d lt high)
    ]
