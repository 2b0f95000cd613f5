-- Lists of entries that rise: an entry put in or taken out, and what stands where.
use Rattle.std.proofs.Common.{◌≡◌, ◌≢◌, ℕ, zero, suc, ◌+◌, ◌<◌, ◌≤◌, List, [], ◌∷◌, ◌++◌, length, get_or, arith, ap, subst, inl, inr}
use Rattle.std.proofs.lemmas.Bool.{cases_lt, cases_eq}
use Rattle.std.proofs.lemmas.Bool.Decides.{nat_tests}
use Rattle.index_keys.specs.Entries.{Entry, rank, EntriesRiseFrom, IsRising, entry_inserted, inserted_all, removed, removed_all, FitsLeaf, AllFit}

-- a list that rises from one place on rises from a lower one on
pub rises_lower : (low high : ℕ) (es : List Entry) → low ≤ high → EntriesRiseFrom high es → EntriesRiseFrom low es
rises_lower low high [] h r = tt
rises_lower low high (e ∷ es) h r = (omega arith, r.1)

-- an entry further on does not stand before the place
pub rises_middle : (low : ℕ) (xs : List Entry) (y : Entry) (ys : List Entry) → EntriesRiseFrom low (xs ++ y ∷ ys) → low ≤ rank y
rises_middle low [] y ys r = r.0
rises_middle low (x ∷ xs) y ys r = let m = rises_middle (rank x + 1) xs y ys r.1 in omega (arith, m, r.0)

-- an element further on
pub rises_at : (low : ℕ) (es : List Entry) (i : ℕ) (d : Entry) → EntriesRiseFrom low es → i < length es → low ≤ rank (get_or es i d)
rises_at low [] i d r l = absurd (omega arith)
rises_at low (e ∷ es) zero d r l = r.0
rises_at low (e ∷ es) (suc i) d r l = let m = rises_at (rank e + 1) es i d r.1 (omega arith) in omega (arith, m, r.0)

pub rises_pair : (low : ℕ) (es : List Entry) (i j : ℕ) (d : Entry) → EntriesRiseFrom low es → i < j → j < length es
    → rank (get_or es i d) < rank (get_or es j d)
rises_pair low [] i j d r l m = absurd (omega arith)
rises_pair low (e ∷ es) i zero d r l m = absurd (omega arith)
rises_pair low (e ∷ es) zero (suc j) d r l m = let a = rises_at (rank e + 1) es j d r.1 (omega arith) in omega (arith, a)
rises_pair low (e ∷ es) (suc i) (suc j) d r l m = rises_pair (rank e + 1) es i j d r.1 (omega arith) (omega arith)

-- the front of a list that rises, and the rest of it
pub rises_front : (low : ℕ) (xs ys : List Entry) → EntriesRiseFrom low (xs ++ ys) → EntriesRiseFrom low xs
rises_front low [] ys r = tt
rises_front low (x ∷ xs) ys r = (r.0, rises_front (rank x + 1) xs ys r.1)

pub rises_back : (low : ℕ) (xs ys : List Entry) → EntriesRiseFrom low (xs ++ ys) → EntriesRiseFrom low ys
rises_back low [] ys r = r
rises_back low (x ∷ xs) ys r = rises_lower low (rank x + 1) ys (let h = r.0 in omega arith) (rises_back (rank x + 1) xs ys r.1)

-- the three cases of `entry_inserted` at the front
pub inserted_front : (e x : Entry) (xs : List Entry) → rank e < rank x → entry_inserted e (x ∷ xs) ≡ e ∷ x ∷ xs
inserted_front e x xs h = grind (arith, nat_tests)

pub inserted_later : (e x : Entry) (xs : List Entry) → rank x < rank e → entry_inserted e (x ∷ xs) ≡ x ∷ entry_inserted e xs
inserted_later e x xs h = grind (arith, nat_tests)

pub inserted_there : (e x : Entry) (xs : List Entry) → rank x ≡ rank e → entry_inserted e (x ∷ xs) ≡ x ∷ xs
inserted_there e x xs h = grind (arith, nat_tests)

-- the two cases of `removed`
pub removed_there : (e x : Entry) (xs : List Entry) → rank x ≡ rank e → removed e (x ∷ xs) ≡ xs
removed_there e x xs h = grind (arith, nat_tests)

pub removed_later : (e x : Entry) (xs : List Entry) → rank x ≢ rank e → removed e (x ∷ xs) ≡ x ∷ removed e xs
removed_later e x xs h = grind (arith, nat_tests)

-- an entry put into a list that rises leaves one
pub inserted-rises : (low : ℕ) (es : List Entry) (e : Entry) → EntriesRiseFrom low es → low ≤ rank e → EntriesRiseFrom low (entry_inserted e es)
inserted-rises low [] e r l = (l, tt)
inserted-rises low (x ∷ xs) e r l = elim (cases_lt (rank e) (rank x)) [
  | inl front ↦ rw (inserted_front e x xs front) (l, (omega arith, r.1))
  | inr rest ↦ elim (cases_lt (rank x) (rank e)) [
    | inl later ↦ rw (inserted_later e x xs later) (r.0, inserted-rises (rank x + 1) xs e r.1 (omega arith))
    | inr there ↦ rw (inserted_there e x xs (omega arith)) r
  ]
]

pub removed-rises : (low : ℕ) (es : List Entry) (e : Entry) → EntriesRiseFrom low es → EntriesRiseFrom low (removed e es)
removed-rises low [] e r = tt
removed-rises low (x ∷ xs) e r = elim (cases_eq (rank x) (rank e)) [
  | inl there ↦ rw (removed_there e x xs there) (rises_lower low (rank x + 1) xs (let h = r.0 in omega arith) r.1)
  | inr later ↦ rw (removed_later e x xs later) (r.0, removed-rises (rank x + 1) xs e r.1)
]

-- a run put in or taken out leaves a list that rises
pub inserted_all_rises : (run es : List Entry) → IsRising es → IsRising (inserted_all run es)
inserted_all_rises [] es up = up
inserted_all_rises (e ∷ run) es up = inserted_all_rises run (entry_inserted e es) (inserted-rises 0 es e up (omega arith))

pub removed_all_rises : (run es : List Entry) → IsRising es → IsRising (removed_all run es)
removed_all_rises [] es up = up
removed_all_rises (e ∷ run) es up = removed_all_rises run (removed e es) (removed-rises 0 es e up)

-- and one whose entries fit
pub inserted-fit : (width : ℕ) (es : List Entry) (e : Entry) → AllFit width es → FitsLeaf width e → AllFit width (entry_inserted e es)
inserted-fit width [] e f k = (k, tt)
inserted-fit width (x ∷ xs) e f k = elim (cases_lt (rank e) (rank x)) [
  | inl front ↦ rw (inserted_front e x xs front) (k, f)
  | inr rest ↦ elim (cases_lt (rank x) (rank e)) [
    | inl later ↦ rw (inserted_later e x xs later) (f.0, inserted-fit width xs e f.1 k)
    | inr there ↦ rw (inserted_there e x xs (omega arith)) f
  ]
]

pub removed_fit : (width : ℕ) (es : List Entry) (e : Entry) → AllFit width es → AllFit width (removed e es)
removed_fit width [] e f = tt
removed_fit width (x ∷ xs) e f = elim (cases_eq (rank x) (rank e)) [
  | inl there ↦ rw (removed_there e x xs there) f.1
  | inr later ↦ rw (removed_later e x xs later) (f.0, removed_fit width xs e f.1)
]

pub inserted_all_fit : (width : ℕ) (run es : List Entry) → AllFit width run → AllFit width es → AllFit width (inserted_all run es)
inserted_all_fit width [] es f h = h
inserted_all_fit width (e ∷ run) es f h = inserted_all_fit width run (entry_inserted e es) f.1 (inserted-fit width es e h f.0)

pub removed_all_fit : (width : ℕ) (run es : List Entry) → AllFit width es → AllFit width (removed_all run es)
removed_all_fit width [] es h = h
removed_all_fit width (e ∷ run) es h = removed_all_fit width run (removed e es) (removed_fit width es e h)

push_up : (low : ℕ) (x : Entry) (es : List Entry) (e d : Entry) → EntriesRiseFrom low (x ∷ es) → rank (get_or (x ∷ es) (length es) d) < rank e
    → EntriesRiseFrom low (x ∷ (es ++ e ∷ []))
push_up low x [] e d r l = (r.0, (omega (arith, l), tt))
push_up low x (y ∷ es) e d r l = (r.0, push_up (rank x + 1) y es e d r.1 l)

push_down : (low : ℕ) (x : Entry) (es : List Entry) (e d : Entry) → EntriesRiseFrom low (x ∷ (es ++ e ∷ [])) → rank (get_or (x ∷ es) (length es) d) < rank e
push_down low x [] e d r = omega (arith, r.1.0)
push_down low x (y ∷ es) e d r = push_down (rank x + 1) y es e d r.1

-- an entry comes behind a list that rises just where its last one stands before it
pub rises_push : (es : List Entry) (i : ℕ) (e l : Entry) → i + 1 ≡ length es → l ≡ get_or es i l → IsRising es
    → (rank l < rank e → IsRising (es ++ e ∷ [])) × (IsRising (es ++ e ∷ []) → rank l < rank e)
rises_push [] i e l n is r = absurd (omega (arith, n))
rises_push (x ∷ es) i e l n is r =
    let k : i ≡ length es = omega (arith, n) in
    let here : l ≡ get_or (x ∷ es) (length es) l = subst (λ (j : ℕ). l ≡ get_or (x ∷ es) j l) k is in
    let s : rank l ≡ rank (get_or (x ∷ es) (length es) l) = ap rank here in (
      (λ lt. push_up 0 x es e l r (omega (arith, s, lt))),
      (λ up. let d = push_down 0 x es e l up in omega (arith, s, d)),
    )
