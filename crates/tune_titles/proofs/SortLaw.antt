-- A stable sort by a total order has one result, which insertion gives; and of a list without ties no other list has the same elements in order.
use Rattle.std.proofs.Common.{◌≡◌, ℕ, zero, suc, ◌+◌, ◌<◌, ◌≤◌, Bool, true, false, cond, List, [], ◌∷◌, length, get_or, Result, Ok, Err, refl, ap, sym}
use Rattle.std.proofs.Common.{◌∙◌, arith, ◌⊎◌, inl, inr, ⊎_elim}
use Rattle.std.specs.Prelude.{⊤, not, ◌&&◌, OnOk}
use Rattle.std.specs.List.{AllByRecursion, filter, Contains, IsDistinct}
use Rattle.std.specs.List.Sorted.{IsPermutation, IsSortedBy, IsStableBy, IsStrictlySortedBy, ties}
use Rattle.std.specs.Cmp.{IsTotalOrder, IsStrictWeakOrder}
use Rattle.std.specs.Ordering.{is_lt, ordering_reverse}
use Rattle.std.specs.declared.cmp.Ordering.{Ordering}
use Rattle.std.specs.declared.cmp.Ordering.TheVariants.{Less, Equal, Greater}
use Rattle.std.proofs.lemmas.Bool.{cases_Bool, and_parts, true≢false, cond-true, cond-false}
use Rattle.std.proofs.lemmas.List.Sorted.{ranks_by, sorted_far, IsPermutation-refl, IsPermutation-trans, IsPermutation-sym, IsPermutation-cons}
use Rattle.std.proofs.lemmas.List.Sorted.{IsPermutation-middle, Contains-permutation}
use Rattle.std.proofs.lemmas.Map.Keys.{IsDistinct-IsPermutation}
use Rattle.tune_titles.specs.Order.{put_in, in_order}

not_true : (b : Bool) → not b ≡ true → b ≡ false
not_true true e = absurd (true≢false (sym e))
not_true false e = refl

and_comm : (a b : Bool) → (a && b) ≡ (b && a)
and_comm true true = refl
and_comm true false = refl
and_comm false true = refl
and_comm false false = refl

-- what is false beside what holds
not_false : (b : Bool) → (not b && true) ≡ false → b ≡ true
not_false true e = refl
not_false false e = absurd (true≢false e)

is_less : (r : Ordering) → is_lt r ≡ true → r ≡ Less
is_less Less e = refl
is_less Equal e = absurd (true≢false (sym e))
is_less Greater e = absurd (true≢false (sym e))

module _ {X : Type 0} (cmp : X → X → Ordering) (total : IsTotalOrder cmp) where
  abbrev lt : X → X → Bool
  lt x y = is_lt (cmp x y)

  order : IsStrictWeakOrder lt
  order = ranks_by total (λ (x : X). x)

  -- none of the list comes before x; none comes before one above it
  abbrev Above : X → List X → Type 0
  Above x ys = AllByRecursion (λ y. lt y x ≡ false) ys

  abbrev Up : List X → Type 0
  Up [] = ⊤
  Up (x ∷ xs) = Above x xs × Up xs

  above_of : (x : X) (xs : List X) → ((k : ℕ) → k < length xs → lt (get_or xs k x) x ≡ false) → Above x xs
  above_of x [] h = tt
  above_of x (y ∷ ys) h = (h 0 (omega arith), above_of x ys (λ k p. h (suc k) (omega arith)))

  up_far : (xs : List X) → ((i j : ℕ) (d : X) → i ≤ j → j < length xs → lt (get_or xs j d) (get_or xs i d) ≡ false) → Up xs
  up_far [] h = tt
  up_far (x ∷ xs) h =
      (above_of x xs (λ k p. h 0 (suc k) x (omega arith) (omega arith)), up_far xs (λ i j d p q. h (suc i) (suc j) d (omega arith) (omega arith)))

  up_of : (xs : List X) → IsSortedBy lt xs → Up xs
  up_of xs sorted = up_far xs (sorted_far lt order xs sorted)

  next_in : (xs : List X) (k : ℕ) (d : X) → suc k < length xs → Up xs → lt (get_or xs (suc k) d) (get_or xs k d) ≡ false
  next_in [] k d w up = absurd (omega arith)
  next_in (x ∷ []) k d w up = absurd (omega arith)
  next_in (x ∷ y ∷ xs) zero d w up = up.0.0
  next_in (x ∷ y ∷ xs) (suc k) d w up = next_in (y ∷ xs) k d (omega arith) up.1

  sorted_of : (xs : List X) → Up xs → IsSortedBy lt xs
  sorted_of xs up k d low high =
      let next : k + 1 ≡ suc k = omega arith in
      ap (λ n. lt (get_or xs n d) (get_or xs k d)) next ∙ next_in xs k d (omega arith) up

  -- INSERTION
  above_put : (x row : X) (rows : List X) → lt row x ≡ false → Above x rows → Above x (put_in cmp row rows)
  above_put x row [] h above = (h, tt)
  above_put x row (first ∷ rows) h above = ⊎_elim
      (λ before. rw before (above.0, above_put x row rows h above.1))
      (λ after. rw after (h, (above.0, above.1)))
      (cases_Bool (lt first row))

  above_less : (x y : X) (ys : List X) → lt x y ≡ false → Above x ys → Above y ys
  above_less x y [] h above = tt
  above_less x y (z ∷ zs) h above = (order.chain z x y above.0 h, above_less x y zs h above.1)

  up_put : (row : X) (rows : List X) → Up rows → Up (put_in cmp row rows)
  up_put row [] up = (tt, tt)
  up_put row (first ∷ rows) up = ⊎_elim
      (λ before. rw before (above_put first row rows (order.one_way first row before) up.0, up_put row rows up.1))
      (λ after. rw after ((after, above_less first row rows after up.0), up))
      (cases_Bool (lt first row))

  up_in_order : (xs : List X) → Up (in_order cmp xs)
  up_in_order [] = tt
  up_in_order (x ∷ xs) = up_put x (in_order cmp xs) (up_in_order xs)

  conds_swap : (a b : Bool) (f r : X) (rest : List X) → (a ≡ true → b ≡ true → ⊥)
      → cond a (f ∷ cond b (r ∷ rest) rest) (cond b (r ∷ rest) rest) ≡ cond b (r ∷ cond a (f ∷ rest) rest) (cond a (f ∷ rest) rest)
  conds_swap true true f r rest never = absurd (never refl refl)
  conds_swap true false f r rest never = refl
  conds_swap false true f r rest never = refl
  conds_swap false false f r rest never = refl

  -- two that tie with a third do not come one before the other
  no_tie : (x first row : X) → lt first row ≡ true → ties lt x first ≡ true → ties lt x row ≡ true → ⊥
  no_tie x first row before p q =
      let one = and_parts (not (lt x first)) (not (lt first x)) p in
      let other = and_parts (not (lt x row)) (not (lt row x)) q in
      true≢false (sym before ∙ order.chain first x row (not_true _ one.1) (not_true _ other.0))

  put_kept : (x row : X) (rows : List X) → filter (ties lt x) (put_in cmp row rows) ≡ filter (ties lt x) (row ∷ rows)
  put_kept x row [] = refl
  put_kept x row (first ∷ rows) = ⊎_elim
      (λ before.
      ap (filter (ties lt x)) (cond-true (lt first row) (first ∷ put_in cmp row rows) (row ∷ first ∷ rows) before)
      ∙ ap (λ kept. cond (ties lt x first) (first ∷ kept) kept) (put_kept x row rows)
      ∙ conds_swap (ties lt x first) (ties lt x row) first row (filter (ties lt x) rows) (no_tie x first row before))
      (λ after. ap (filter (ties lt x)) (cond-false (lt first row) (first ∷ put_in cmp row rows) (row ∷ first ∷ rows) after))
      (cases_Bool (lt first row))

  in_order_kept : (x : X) (xs : List X) → filter (ties lt x) (in_order cmp xs) ≡ filter (ties lt x) xs
  in_order_kept x [] = refl
  in_order_kept x (y ∷ ys) =
      put_kept x y (in_order cmp ys) ∙ ap (λ kept. cond (ties lt x y) (y ∷ kept) kept) (in_order_kept x ys)

  -- ONE RESULT
  self_ties : (x : X) → ties lt x x ≡ true
  self_ties x =
      let no : lt x x ≡ false = ⊎_elim (λ is. order.one_way x x is) (λ no. no) (cases_Bool (lt x x)) in
      rw no refl

  tied_above : (x low : X) (ys : List X) → Above low ys → (z : X) (zs : List X) → filter (ties lt x) ys ≡ z ∷ zs → lt x low ≡ false
  tied_above x low [] above z zs e = cc
  tied_above x low (y ∷ ys) above z zs e = ⊎_elim
      (λ tie. order.chain x y low (not_true _ (and_parts (not (lt x y)) (not (lt y x)) tie).0) above.0)
      (λ none. tied_above x low ys above.1 z zs (sym (cond-false (ties lt x y) (y ∷ filter (ties lt x) ys) (filter (ties lt x) ys) none) ∙ e))
      (cases_Bool (ties lt x y))

  not_below : (x y : X) (ys : List X) → Above y ys → (z : X) (zs : List X) → filter (ties lt x) (y ∷ ys) ≡ z ∷ zs → lt x y ≡ false
  not_below x y ys above z zs e =
      let no = and_parts (not (lt y y)) (not (lt y y)) (self_ties y) in
      tied_above x y (y ∷ ys) (not_true _ no.0, above) z zs e

  kept_first : (x : X) (xs : List X) → filter (ties lt x) (x ∷ xs) ≡ x ∷ filter (ties lt x) xs
  kept_first x xs = cond-true (ties lt x x) (x ∷ filter (ties lt x) xs) (filter (ties lt x) xs) (self_ties x)

  tails_same : (b : Bool) (x : X) (f g : List X) → cond b (x ∷ f) f ≡ cond b (x ∷ g) g → f ≡ g
  tails_same true x f g e = cc
  tails_same false x f g e = e

  pub one_stable : (xs ys : List X) → Up xs → Up ys → ((x : X) → filter (ties lt x) xs ≡ filter (ties lt x) ys) → xs ≡ ys
  one_stable [] [] p q same = refl
  one_stable [] (y ∷ ys) p q same = let none : [] ≡ y ∷ filter (ties lt y) ys = same y ∙ kept_first y ys in cc
  one_stable (x ∷ xs) [] p q same = let none : x ∷ filter (ties lt x) xs ≡ [] = sym (kept_first x xs) ∙ same x in cc
  one_stable (x ∷ xs) (y ∷ ys) p q same =
      let low = not_below x y ys q.0 x (filter (ties lt x) xs) (sym (same x) ∙ kept_first x xs) in
      let high = not_below y x xs p.0 y (filter (ties lt y) ys) (same y ∙ kept_first y ys) in
      let tie : ties lt x y ≡ true = rw (low, high) refl in
      let heads : x ∷ filter (ties lt x) xs ≡ y ∷ filter (ties lt x) ys =
      sym (kept_first x xs) ∙ same x ∙ cond-true (ties lt x y) (y ∷ filter (ties lt x) ys) (filter (ties lt x) ys) tie in
      let head : x ≡ y = cc in
      let tails = one_stable xs ys p.1 q.1 (λ z.
      tails_same (ties lt z x) x (filter (ties lt z) xs) (filter (ties lt z) ys)
      (same z ∙ ap (λ h. cond (ties lt z h) (h ∷ filter (ties lt z) ys) (filter (ties lt z) ys)) (sym head))) in
      (λ i. head i ∷ tails i)

  pub one_sort : (old new : List X) → IsSortedBy lt new → IsStableBy lt old new → new ≡ in_order cmp old
  one_sort old new sorted stable =
      one_stable new (in_order cmp old) (up_of new sorted) (up_in_order old) (λ x. stable x ∙ sym (in_order_kept x old))

  pub in_order-rises : (xs : List X) → IsSortedBy lt (in_order cmp xs)
  in_order-rises xs = sorted_of (in_order cmp xs) (up_in_order xs)

  -- THE SAME ELEMENTS
  put_same : (row : X) (rows : List X) → IsPermutation (row ∷ rows) (put_in cmp row rows)
  put_same row [] = IsPermutation-refl (row ∷ [])
  put_same row (first ∷ rows) = ⊎_elim
      (λ before. rw before
      (IsPermutation-trans (row ∷ first ∷ rows) (first ∷ row ∷ rows) (first ∷ put_in cmp row rows) (IsPermutation-middle (row ∷ []) first rows)
      (IsPermutation-cons first (row ∷ rows) (put_in cmp row rows) (put_same row rows))))
      (λ after. rw after (IsPermutation-refl (row ∷ first ∷ rows)))
      (cases_Bool (lt first row))

  pub in_order-same : (xs : List X) → IsPermutation xs (in_order cmp xs)
  in_order-same [] = IsPermutation-refl []
  in_order-same (x ∷ xs) =
      IsPermutation-trans (x ∷ xs) (x ∷ in_order cmp xs) (put_in cmp x (in_order cmp xs)) (IsPermutation-cons x xs (in_order cmp xs) (in_order-same xs))
      (put_same x (in_order cmp xs))

  -- LISTS WITHOUT TIES
  abbrev IsIn : X → List X → Type 0
  IsIn x [] = ⊥
  IsIn x (y ∷ ys) = (x ≡ y) ⊎ IsIn x ys

  abbrev Rises : List X → Type 0
  Rises [] = ⊤
  Rises (x ∷ xs) = AllByRecursion (λ y. cmp x y ≡ Less) xs × Rises xs

  below : (x z : X) (ys : List X) → AllByRecursion (λ y. cmp x y ≡ Less) ys → IsIn z ys → cmp x z ≡ Less
  below x z [] all is = absurd is
  below x z (y ∷ ys) all (inl e) = ap (cmp x) e ∙ all.0
  below x z (y ∷ ys) all (inr is) = below x z ys all.1 is

  not_both : (x y : X) → cmp x y ≡ Less → cmp y x ≡ Less → ⊥
  not_both x y p q = let turned : Less ≡ Greater = sym p ∙ total.antisymm x y ∙ ap ordering_reverse q in cc

  same_head : (x y : X) (xs ys : List X) → AllByRecursion (λ z. cmp x z ≡ Less) xs → AllByRecursion (λ z. cmp y z ≡ Less) ys
      → (x ≡ y) ⊎ IsIn x ys → (y ≡ x) ⊎ IsIn y xs → x ≡ y
  same_head x y xs ys p q (inl e) j = e
  same_head x y xs ys p q (inr i) (inl e) = sym e
  same_head x y xs ys p q (inr i) (inr j) = absurd (not_both x y (below x y xs p j) (below y x ys q i))

  in_tail : (x y z : X) (xs ys : List X) → x ≡ y → AllByRecursion (λ z. cmp x z ≡ Less) xs → IsIn z xs → (z ≡ y) ⊎ IsIn z ys → IsIn z ys
  in_tail x y z xs ys same p i (inl e) =
      let less = below x z xs p i in
      let itself : cmp x x ≡ Less = ap (cmp x) (same ∙ sym e) ∙ less in
      absurd (not_both x x itself itself)
  in_tail x y z xs ys same p i (inr j) = j

  one_list : (xs ys : List X) → Rises xs → Rises ys → ((z : X) → IsIn z xs → IsIn z ys) → ((z : X) → IsIn z ys → IsIn z xs) → xs ≡ ys
  one_list [] [] p q to back = refl
  one_list [] (y ∷ ys) p q to back = absurd (back y (inl refl))
  one_list (x ∷ xs) [] p q to back = absurd (to x (inl refl))
  one_list (x ∷ xs) (y ∷ ys) p q to back =
      let same = same_head x y xs ys p.0 q.0 (to x (inl refl)) (back y (inl refl)) in
      let tails =
      one_list xs ys p.1 q.1 (λ z i. in_tail x y z xs ys same p.0 i (to z (inr i))) (λ z i. in_tail y x z ys xs (sym same) q.0 i (back z (inr i))) in
      (λ i. same i ∷ tails i)

  in_at : (xs : List X) (x : X) (k : ℕ) → k < length xs → get_or xs k x ≡ x → IsIn x xs
  in_at [] x k w e = absurd (omega arith)
  in_at (y ∷ ys) x zero w e = inl (sym e)
  in_at (y ∷ ys) x (suc k) w e = inr (in_at ys x k (omega arith) e)

  at_in : (xs : List X) (x : X) → IsIn x xs → Contains xs x
  at_in [] x is = absurd is
  at_in (y ∷ ys) x (inl e) = (0, omega arith, sym e)
  at_in (y ∷ ys) x (inr is) = let later = at_in ys x is in (suc later.0, omega (arith, later.1), later.2)

  in_both : (xs ys : List X) → IsPermutation xs ys → (x : X) → IsIn x xs → IsIn x ys
  in_both xs ys p x is = let at = Contains-permutation xs ys x p (at_in xs x is) in in_at ys x at.0 at.1 at.2

  rises_of : (xs : List X) → IsStrictlySortedBy cmp xs → Rises xs
  unfolding IsStrictlySortedBy
  rises_of [] strict = tt
  rises_of (x ∷ xs) strict = (strict.0, rises_of xs strict.1)

  less_no_tie : (x : X) (ys : List X) → AllByRecursion (λ y. cmp x y ≡ Less) ys → AllByRecursion (λ y. ties lt x y ≡ false) ys
  less_no_tie x [] all = tt
  less_no_tie x (y ∷ ys) all = let less : lt x y ≡ true = ap is_lt all.0 in (rw less refl, less_no_tie x ys all.1)

  distinct_of : (xs : List X) → Rises xs → IsDistinct (ties lt) xs
  unfolding IsDistinct
  distinct_of [] rises = tt
  distinct_of (x ∷ xs) rises = (less_no_tie x xs rises.0, distinct_of xs rises.1)

  less_of : (x y : X) → lt y x ≡ false → ties lt x y ≡ false → cmp x y ≡ Less
  less_of x y not_before none = is_less (cmp x y) (not_false (lt x y) (rw not_before at none))

  all_less : (x : X) (ys : List X) → Above x ys → AllByRecursion (λ y. ties lt x y ≡ false) ys → AllByRecursion (λ y. cmp x y ≡ Less) ys
  all_less x [] above none = tt
  all_less x (y ∷ ys) above none = (less_of x y above.0 none.0, all_less x ys above.1 none.1)

  strict_of : (xs : List X) → Up xs → IsDistinct (ties lt) xs → Rises xs
  unfolding IsDistinct
  strict_of [] up none = tt
  strict_of (x ∷ xs) up none = (all_less x xs up.0 none.0, strict_of xs up.1 none.1)

  pub only_order : (rows others : List X) → IsPermutation rows others → IsStrictlySortedBy cmp others → others ≡ in_order cmp rows
  only_order rows others same strict =
      let ys = in_order cmp rows in
      let moved = IsPermutation-trans others rows ys (IsPermutation-sym rows others same) (in_order-same rows) in
      let rises = rises_of others strict in
      let none = IsDistinct-IsPermutation (ties lt) (λ x y. and_comm (not (lt x y)) (not (lt y x))) others ys moved (distinct_of others rises) in
      one_list others ys rises (strict_of ys (up_in_order rows) none) (in_both others ys moved) (in_both ys others (IsPermutation-sym others ys moved))

pub on_ok : {T E : Type 0} (r : Result T E) (P Q : Type 0) → OnOk r P → (P → Q) → OnOk r Q
on_ok (Ok x) P Q p f = f p
on_ok (Err e) P Q p f = tt
