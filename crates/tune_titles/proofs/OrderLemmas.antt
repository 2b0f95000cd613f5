-- The order of texts, byte by byte, and of rows.
use Rattle.std.proofs.Common.{◌≡◌, ℕ, zero, suc, ◌<◌, ◌≤◌, List, [], ◌∷◌, length, take, drop, ◌++◌, get_or, refl, Ordering}
use Rattle.std.proofs.Common.{ap, sym, ◌∙◌, arith, ◌⊎◌, inl, inr, ⊎_elim, eqb}
use Rattle.std.proofs.lemmas.Bool.{lt-ltb, le-ltb, ne_eqb, eq-eqb, eqb-true, cases_lt}
use Rattle.std.specs.Char.{to_ascii_lowercase}
use Rattle.std.specs.List.{between}
use Rattle.std.proofs.lemmas.List.{take-append-drop, take-take}
use Rattle.std.proofs.lemmas.Slice.{between_is}
use Rattle.std.specs.Ordering.{nat_cmp, ordering_then}
use Rattle.std.specs.Cmp.{both_ways, IsTotalOrder, then_total, nat_cmp_total, on_total, tied_itself}
use Rattle.std.specs.Cmp.Lexicographic.{nat_list_cmp_total}
use Rattle.tune_titles.specs.Titles.{sorting_title}
use Rattle.tune_titles.specs.Order.{PlacedTitle, small_order, row_order, LawOfOrder}
use Rattle.tune_titles.proofs.SortLaw.{in_order-same, in_order-rises, only_order}

-- from a place on, where both have a byte, the bytes at it come first
pub order_at : (a b : List ℕ) (i : ℕ) → i < length a → i < length b → small_order (drop i a) (drop i b)
    ≡ ordering_then (nat_cmp (to_ascii_lowercase (get_or a i 0)) (to_ascii_lowercase (get_or b i 0))) (small_order (drop (suc i) a) (drop (suc i) b))
order_at [] b i p q = absurd (omega arith)
order_at (x ∷ a) [] i p q = absurd (omega arith)
order_at (x ∷ a) (y ∷ b) zero p q = refl
order_at (x ∷ a) (y ∷ b) (suc i) p q = order_at a b i (omega arith) (omega arith)

same_test : (n m : ℕ) → eqb (suc n) (suc m) ≡ eqb n m
same_test n m = both_ways (eqb (suc n) (suc m)) (eqb n m) (λ e. let same = eqb-true (suc n) (suc m) e in eq-eqb n m (omega arith))
    (λ e. eq-eqb (suc n) (suc m) (ap suc (eqb-true n m e)))

nat_cmp_suc : (n m : ℕ) → nat_cmp (suc n) (suc m) ≡ nat_cmp n m
nat_cmp_suc n m = ⊎_elim
    (λ l. rw (lt-ltb n m l, lt-ltb (suc n) (suc m) (omega arith)) refl)
    (λ g. rw (le-ltb n m g, le-ltb (suc n) (suc m) (omega arith), same_test n m) refl)
    (cases_lt n m)

-- where one of them has no byte more, their lengths decide
pub order_at_end : (a b : List ℕ) (i : ℕ) → i ≤ length a → i ≤ length b → (length a ≡ i) ⊎ (length b ≡ i)
    → small_order (drop i a) (drop i b) ≡ nat_cmp (length a) (length b)
order_at_end [] [] zero p q e = refl
order_at_end [] (y ∷ b) zero p q e = rw (lt-ltb 0 (suc (length b)) (omega arith)) refl
order_at_end (x ∷ a) [] zero p q e = rw (le-ltb (suc (length a)) 0 (omega arith), ne_eqb (suc (length a)) 0 (λ s. omega arith)) refl
order_at_end (x ∷ a) (y ∷ b) zero p q (inl e) = absurd (omega arith)
order_at_end (x ∷ a) (y ∷ b) zero p q (inr e) = absurd (omega arith)
order_at_end [] b (suc i) p q e = absurd (omega arith)
order_at_end (x ∷ a) [] (suc i) p q e = absurd (omega arith)
order_at_end (x ∷ a) (y ∷ b) (suc i) p q (inl e) = order_at_end a b i (omega arith) (omega arith) (inl (omega arith)) ∙ sym (nat_cmp_suc (length a) (length b))
order_at_end (x ∷ a) (y ∷ b) (suc i) p q (inr e) = order_at_end a b i (omega arith) (omega arith) (inr (omega arith)) ∙ sym (nat_cmp_suc (length a) (length b))

-- bytes that are alike in front do not matter
same_front : (p a b : List ℕ) → small_order (p ++ a) (p ++ b) ≡ small_order a b
same_front [] a b = refl
same_front (x ∷ p) a b =
    ap (λ (o : Ordering). ordering_then o (small_order (p ++ a) (p ++ b))) (tied_itself nat_cmp_total (to_ascii_lowercase x)) ∙ same_front p a b

pub order_behind : (a b : List ℕ) (k : ℕ) → take k a ≡ take k b → small_order (drop k a) (drop k b) ≡ small_order a b
order_behind a b k e =
    sym (same_front (take k a) (drop k a) (drop k b))
    ∙ ap (λ l. small_order (take k a ++ drop k a) (l ++ drop k b)) e
    ∙ ap (λ l. small_order l (take k b ++ drop k b)) (take-append-drop k a) ∙ ap (λ l. small_order a l) (take-append-drop k b)

-- a block more that is alike
take_split : (a : List ℕ) (i j : ℕ) → i ≤ j → take j a ≡ take i a ++ between i j a
take_split a i j h =
    sym (take-append-drop i (take j a)) ∙ ap (λ l. l ++ drop i (take j a)) (take-take i j a h) ∙ ap (λ l. take i a ++ l) (sym (between_is a i j))

pub alike_more : (a b : List ℕ) (i j : ℕ) → i ≤ j → take i a ≡ take i b → between i j a ≡ between i j b → take j a ≡ take j b
alike_more a b i j l e h =
    take_split a i j l ∙ ap (λ p. p ++ between i j a) e ∙ ap (λ p. take i b ++ p) h ∙ sym (take_split b i j l)

-- rows are in a total order
pub row_order_total : IsTotalOrder row_order
row_order_total =
    then_total (on_total (λ (r : PlacedTitle). sorting_title r.title) nat_list_cmp_total)
    (then_total (on_total (λ (r : PlacedTitle). r.number) nat_cmp_total) (on_total (λ (r : PlacedTitle). r.place) nat_cmp_total))

pub law_of_order : (rows : List PlacedTitle) → LawOfOrder rows
law_of_order rows = record {
  same = in_order-same row_order row_order_total rows;
  rises = in_order-rises row_order row_order_total rows;
  only = only_order row_order row_order_total rows;
}
