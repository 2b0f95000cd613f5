-- One image more among the changes of a work.
use Rattle.std.proofs.Common.{◌≡◌, inl, inr, ℕ, zero, suc, ◌+◌, ◌<◌, ◌≤◌, max, List, [], ◌∷◌, ◌++◌, length, set, take, drop, map, All, IsSome}
use Rattle.std.proofs.Common.{refl, sym, ◌∙◌, ap, subst, arith}
use Rattle.std.proofs.lemmas.List.{set_split, append-nil, take_at}
use Rattle.std.proofs.lemmas.Bool.{cases_eq, cases_lt}
use Rattle.std.specs.List.Sorted.{IsStrictlyIncreasing}
use Rattle.tune_journal.specs.ChangeList.{with_change, image_of}
use Rattle.tune_journal.specs.Pages.{pages_after}
use Rattle.tune_journal.proofs.Above.{length-pages_after}
use Rattle.tune_journal.proofs.ChangeLists.{Change, rises_with, increasing_from_rises, rises_from_increasing}
use Rattle.tune_journal.proofs.Puts.{image_put, image_others, put_sets, put_adds}
use Rattle.tune_pages.specs.Stand.{placed}

-- the changes of a list by rising page
abbrev pub Rising : List Change → Type 0
Rising cs = IsStrictlyIncreasing (map (λ c. c.0) cs)

pub rising_with : (p : ℕ) (i : List ℕ) (cs : List Change) → Rising cs → Rising (with_change p i cs)
rising_with p i cs rising = increasing_from_rises (with_change p i cs) (rises_with p i cs (rises_from_increasing cs rising))

-- each page from the n-th to the m-th has an image
abbrev pub HasImages : ℕ → ℕ → List Change → Type 0
HasImages n m cs = (p : ℕ) → n ≤ p → p < m → IsSome (image_of p cs)

-- all up to m, and page m at most: then all up to m', which is m or one more
pub images_with : (n m m' p : ℕ) (i : List ℕ) (cs : List Change) → p ≤ m → m' ≡ max m (p + 1) → HasImages n m cs → HasImages n m' (with_change p i cs)
images_with n m m' p i cs le is has = λ q low high. elim (cases_eq q p) [
  | inl same ↦ subst (λ (x : ℕ). IsSome (image_of x (with_change p i cs))) (sym same) (subst IsSome (sym (image_put p i cs)) refl)
  | inr ne ↦ subst IsSome (sym (image_others p i cs q ne)) (has q low (omega (arith, le, is, high, ne)))
]

placed_set : (p : ℕ) (i : List ℕ) (x : List (List ℕ)) → p < length x → set x p i ≡ placed p i x
placed_set p i x lt = let e : suc p ≡ p + 1 = omega arith in set_split x p i lt ∙ ap (λ (n : ℕ). take p x ++ i ∷ drop n x) e

placed_end : (x : List (List ℕ)) (i : List ℕ) (p : ℕ) → p ≡ length x → x ++ i ∷ [] ≡ placed p i x
placed_end x i p is =
    let front : take p x ≡ x = ap (take p) (sym (append-nil x)) ∙ take_at x [] p (sym is) in
    let behind : drop (p + 1) x ≡ [] = drop_past x (p + 1) (omega (arith, is)) in
    sym (ap (λ (l : List (List ℕ)). l ++ i ∷ drop (p + 1) x) front ∙ ap (λ (l : List (List ℕ)). x ++ i ∷ l) behind)
  where
    drop_past : (y : List (List ℕ)) (n : ℕ) → length y ≤ n → drop n y ≡ []
    drop_past [] zero le = refl
    drop_past [] (suc n) le = refl
    drop_past (a ∷ y) zero le = absurd (omega (arith, le))
    drop_past (a ∷ y) (suc n) le = drop_past y n (omega (arith, le))

-- PUTTING A PAGE that is there, or the first behind them
pub after_placed : (pages : List (List ℕ)) (m m' p : ℕ) (i : List ℕ) (cs : List Change) → length pages ≤ m → p ≤ m → m' ≡ max m (p + 1)
    → Rising cs → All (λ c. c.0 < m) cs → pages_after pages m' (with_change p i cs) ≡ placed p i (pages_after pages m cs)
after_placed pages m m' p i cs le most is rising below = elim (cases_lt p m) [
  | inl lt ↦ ap (λ (n : ℕ). pages_after pages n (with_change p i cs)) (let e : m' ≡ m = omega (arith, is, lt) in e)
      ∙ put_sets pages m p i cs (rises_from_increasing cs rising)
      ∙ placed_set p i (pages_after pages m cs) (omega (arith, lt, length-pages_after pages m cs le))
  | inr ge ↦ (let here : p ≡ m = omega (arith, ge, most) in
      ap (λ (n : ℕ). pages_after pages n (with_change p i cs)) (let e : m' ≡ m + 1 = omega (arith, is, ge, most) in e)
      ∙ ap (λ (n : ℕ). pages_after pages (m + 1) (with_change n i cs)) here
      ∙ put_adds pages m i cs le (rises_from_increasing cs rising) below
      ∙ placed_end (pages_after pages m cs) i p (here ∙ sym (length-pages_after pages m cs le)))
]
