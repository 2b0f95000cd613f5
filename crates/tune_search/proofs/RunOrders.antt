-- Entries in order by their keys alone, and so by their ranks where they came by number.
use Rattle.std.proofs.Common.{◌≡◌, ℕ, ◌+◌, ◌-◌, ◌*◌, ◌^◌, ◌<◌, ◌≤◌, ◌⊎◌, inl, inr, refl, sym, subst, ap, arith, false, List, length, get_or, take, All, Bor}
use Rattle.std.proofs.lemmas.Fn.{always_returns_same}
use Rattle.std.proofs.lemmas.List.{take_more}
use Rattle.std.proofs.lemmas.List.Elements.{All-get_or, All-push}
use Rattle.std.proofs.lemmas.List.Sorted.{All-permutation, IsNonDecreasingBy-from_all_adjacent, IsNonDecreasingBy-from_sort, IsNonDecreasingBy-push}
use Rattle.std.proofs.lemmas.List.Sorted.{ties_still_rise}
use Rattle.std.specs.Cmp.{ranks}
use Rattle.std.specs.Fn.{Called, ComparesAs}
use Rattle.std.specs.List.Sorted.{IsNonDecreasingBy, IsPermutation, IsSortedByKey, IsStableByKey}
use Rattle.std.specs.Ordering.{is_lt, nat_cmp, MatchOrdering}
use Rattle.std.specs.declared.cmp.Ordering.{Ordering}
use Rattle.std.specs.declared.cmp.Ordering.TheVariants.{Less, Equal, Greater}
use Rattle.index_keys.specs.Entries.{Entry, rank}
use denote.Param.Members.{Mut}

-- an order that each call gives by numbers of the two is that of these numbers
pub answers_by : {F X : Type 0} (n : X → ℕ) {g : Mut F (Bor X × (Bor X × Unit {0})) Ordering} {f : F}
    → ((a : Bor X × (Bor X × Unit {0})) (r : Ordering) (f' : F) → Called g f a r f' → (r ≡ nat_cmp (n a.0.now) (n a.1.0.now)) × (f' ≡ f))
    → ComparesAs g (λ x y. is_lt (nat_cmp (n x) (n y))) f
answers_by n {g = g} {f = f} h = always_returns_same g (λ a r. is_lt r ≡ is_lt (nat_cmp (n a.0.now) (n a.1.0.now))) f
    (λ a r f' k. (ap is_lt (h a r f' k).0, (h a r f' k).1))

-- THE LOOK WHETHER NUMBERS FALL
-- the front of a list with one element more, whose number is no lower than `last`
module _ {X : Type 0} (n : X → ℕ) (xs : List X) (k last : ℕ) (d : X) (lt : k < length xs) (le : last ≤ n (get_or xs k d)) where
  pub still_by_number : IsNonDecreasingBy n (take k xs) → All (λ x. n x ≤ last) (take k xs) → IsNonDecreasingBy n (take (k + 1) xs)
  still_by_number up below = subst (IsNonDecreasingBy n) (sym (take_more xs k d lt))
      (IsNonDecreasingBy-push n (take k xs) (get_or xs k d) up
      (λ d' some.
      let last_one = All-get_or (λ (x : X). n x ≤ last) (take k xs) (length (take k xs) - 1) d' (omega (arith, some)) below in
      omega (arith, last_one, le)))

  pub still_below : All (λ x. n x ≤ last) (take k xs) → All (λ x. n x ≤ n (get_or xs k d)) (take (k + 1) xs)
  still_below below = subst (All (λ x. n x ≤ n (get_or xs k d))) (sym (take_more xs k d lt))
      (All-push (λ (x : X). n x ≤ n (get_or xs k d)) (take k xs) (get_or xs k d)
      (λ i d' within. let one = below i d' within in omega (arith, one, le)) (omega arith))

-- THE SORT
not_below : (a b : ℕ) → b ≤ a → is_lt (nat_cmp a b) ≡ false
not_below a b le = by_order (nat_cmp a b) (ranks a b)
  where
    by_order : (o : Ordering) → MatchOrdering o (a < b) (a ≡ b) (b < a) → is_lt o ≡ false
    by_order Less lt = absurd (omega (arith, lt, le))
    by_order Equal same = refl
    by_order Greater gt = refl

by_value : (es : List Entry) → IsNonDecreasingBy (λ e. e.1) es → IsSortedByKey (λ e. e.1) nat_cmp es
by_value es up k d low lt = not_below (get_or es (k + 1) d).1 (get_or es k d).1 (up k (k + 1) d (omega arith) lt)

-- a stable sort by keys of entries that come by number is one by key and then number
pub by_ranks : (old new : List Entry) → IsNonDecreasingBy (λ e. e.1) old → All (λ e. e.1 < 2 ^ 32) old → IsPermutation old new
    → IsSortedByKey (λ e. e.0) nat_cmp new → IsStableByKey (λ e. e.0) nat_cmp old new → IsNonDecreasingBy rank new
by_ranks old new up small same sorted stable = IsNonDecreasingBy-from_all_adjacent rank new next_to
  where
    next_to : (k : ℕ) (d : Entry) → k + 1 < length new → rank (get_or new k d) ≤ rank (get_or new (k + 1) d)
    next_to k d lt =
        let one = get_or new k d in
        let other = get_or new (k + 1) d in
        let keys : one.0 ≤ other.0 = IsNonDecreasingBy-from_sort (λ (e : Entry). e.0) new sorted k (k + 1) d (omega arith) lt in
        let bound : one.1 < 2 ^ 32 =
        All-get_or (λ (e : Entry). e.1 < 2 ^ 32) new k d (omega (arith, lt)) (All-permutation (λ (e : Entry). e.1 < 2 ^ 32) old new same small) in
        compared one other keys bound (ties_still_rise (λ (e : Entry). e.1) (λ (e : Entry). e.0) old new (by_value old up) stable k d lt)
      where
        compared : (one other : Entry) → one.0 ≤ other.0 → one.1 < 2 ^ 32 → (one.0 ≡ other.0 → one.1 ≤ other.1) → rank one ≤ rank other
        compared (k, v) (k', v') keys bound tie = by_keys (equal_or_below k k' keys)
          where
            equal_or_below : (a b : ℕ) → a ≤ b → (a ≡ b) ⊎ (a < b)
            equal_or_below a b le = search (arith, le)

            by_keys : (k ≡ k') ⊎ (k < k') → k * 2 ^ 32 + v ≤ k' * 2 ^ 32 + v'
            by_keys (inl is) = omega (arith, is, tie is)
            by_keys (inr lt) = omega (arith, lt, bound)
