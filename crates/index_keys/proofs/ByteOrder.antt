-- The order of two texts of bytes, seen some bytes at a time: those in front spell two numbers.
use Rattle.std.proofs.Common.{◌≡◌, ◌≢◌, ℕ, zero, suc, ◌+◌, ◌*◌, ◌^◌, ◌<◌, ◌≤◌, List, [], ◌∷◌, ◌++◌, length, take, drop, slice_index, refl, sym, ap, ◌∙◌, arith}
use Rattle.std.proofs.Common.{Ordering, inl, inr}
use Rattle.std.proofs.lemmas.Bool.{cases_lt}
use Rattle.std.proofs.lemmas.List.{get_or-drop, get_or-take, get_or_past, length-take-le, take-append-drop}
use Rattle.std.specs.Ordering.{nat_cmp, ordering_then}
use Rattle.std.specs.declared.cmp.Ordering.TheVariants.{Less, Equal, Greater}
use Rattle.std.specs.Cmp.{ranks}
use Rattle.std.specs.Cmp.Lexicographic.{slice_cmp}
use Rattle.byteorder.specs.Endian.{big_from}
use Rattle.byteorder.specs.Numbers.{big_from-lt, big_from-take}
use Rattle.index_keys.specs.Entries.{rank}
use Rattle.index_keys.proofs.KeyNumbers.{AreBytes}
use Rattle.index_keys.proofs.KeyNumbers.{Answers, digits, number_cons, same_bytes}

-- one order alone answers for two numbers
answer_once : (o q : Ordering) (m n : ℕ) → Answers o m n → Answers q m n → o ≡ q
answer_once Less Less m n a b = refl
answer_once Less Equal m n a b = absurd (omega (arith, a, b))
answer_once Less Greater m n a b = absurd (omega (arith, a, b))
answer_once Equal Less m n a b = absurd (omega (arith, a, b))
answer_once Equal Equal m n a b = refl
answer_once Equal Greater m n a b = absurd (omega (arith, a, b))
answer_once Greater Less m n a b = absurd (omega (arith, a, b))
answer_once Greater Equal m n a b = absurd (omega (arith, a, b))
answer_once Greater Greater m n a b = refl

-- what follows an order that is not that of equals does not matter
unequal_then : (o q : Ordering) (m n : ℕ) → Answers o m n → m ≢ n → ordering_then o q ≡ o
unequal_then Less q m n a d = refl
unequal_then Equal q m n a d = absurd (d a)
unequal_then Greater q m n a d = refl

pub settled : (m n : ℕ) (q : Ordering) → m ≢ n → ordering_then (nat_cmp m n) q ≡ nat_cmp m n
settled m n q d = unequal_then (nat_cmp m n) q m n (ranks m n) d

pub equal_then : (m n : ℕ) (q : Ordering) → m ≡ n → ordering_then (nat_cmp m n) q ≡ q
equal_then m n q e = ap (λ (o : Ordering). ordering_then o q) (answer_once (nat_cmp m n) Equal m n (ranks m n) e)

then_then : (o q r : Ordering) → ordering_then o (ordering_then q r) ≡ ordering_then (ordering_then o q) r
then_then Less q r = refl
then_then Equal q r = refl
then_then Greater q r = refl

-- the numbers that the bytes in front spell come first, and then the rest
pub front_order : (n : ℕ) (xs ys : List ℕ) → ((k : ℕ) → slice_index xs k < 256) → ((k : ℕ) → slice_index ys k < 256) → n ≤ length xs → n ≤ length ys
    → slice_cmp nat_cmp xs ys ≡ ordering_then (nat_cmp (big_from 0 n xs) (big_from 0 n ys)) (slice_cmp nat_cmp (drop n xs) (drop n ys))
front_order zero xs ys s t a b = sym (equal_then 0 0 (slice_cmp nat_cmp xs ys) refl)
front_order (suc n) [] ys s t a b = absurd (omega arith)
front_order (suc n) (x ∷ xs) [] s t a b = absurd (omega arith)
front_order (suc n) (x ∷ xs) (y ∷ ys) s t a b =
    let p = 256 ^ n in
    let f = big_from 0 n xs in
    let g = big_from 0 n ys in
    let rest = slice_cmp nat_cmp (drop n xs) (drop n ys) in
    let numbers : Answers (ordering_then (nat_cmp x y) (nat_cmp f g)) (x * p + f) (y * p + g) =
    digits p x y f g (nat_cmp x y) (nat_cmp f g) (big_from-lt 0 n xs (λ k. s (suc k))) (big_from-lt 0 n ys (λ k. t (suc k))) (ranks x y) (ranks f g) in
    let one : ordering_then (nat_cmp x y) (nat_cmp f g) ≡ nat_cmp (x * p + f) (y * p + g) =
    answer_once (ordering_then (nat_cmp x y) (nat_cmp f g)) (nat_cmp (x * p + f) (y * p + g)) (x * p + f) (y * p + g) numbers (ranks (x * p + f) (y * p + g)) in
    rw (number_cons n x xs, number_cons n y ys)
    (ap (λ (o : Ordering). ordering_then (nat_cmp x y) o) (front_order n xs ys (λ k. s (suc k)) (λ k. t (suc k)) (omega arith) (omega arith))
    ∙ then_then (nat_cmp x y) (nat_cmp f g) rest ∙ ap (λ (o : Ordering). ordering_then o rest) one)

-- bytes further on are bytes
pub small_on : (bytes : List ℕ) (at : ℕ) → ((k : ℕ) → slice_index bytes k < 256) → (k : ℕ) → slice_index (drop at bytes) k < 256
small_on bytes at s k = let e = get_or-drop at bytes k 0 in omega (arith, e, s (at + k))

-- and so are those in front
bytes_front : (n : ℕ) (xs : List ℕ) → ((k : ℕ) → slice_index xs k < 256) → n ≤ length xs → AreBytes n (take n xs)
bytes_front n xs s a =
    let long = length-take-le n xs a in
    record {
      size = long;
      small = λ k. elim (cases_lt k n) [
        | inl within ↦ let e = get_or-take n xs k 0 within in omega (arith, e, s k)
        | inr over ↦ let e = get_or_past (take n xs) k 0 (omega (arith, long, over)) in omega (arith, e)
      ];
    }

-- bytes are the same where the numbers that those in front spell are, and the rest is
pub same_by_number : (n : ℕ) (xs ys : List ℕ) → ((k : ℕ) → slice_index xs k < 256) → ((k : ℕ) → slice_index ys k < 256) → n ≤ length xs → n ≤ length ys
    → big_from 0 n xs ≡ big_from 0 n ys → drop n xs ≡ drop n ys → xs ≡ ys
same_by_number n xs ys s t a b e d =
    let front : take n xs ≡ take n ys = same_bytes n (take n xs) (take n ys) (bytes_front n xs s a) (bytes_front n ys t b)
    (big_from-take 0 n n xs (omega arith) ∙ e ∙ sym (big_from-take 0 n n ys (omega arith))) in
    sym (take-append-drop n xs) ∙ (λ i. front i ++ d i) ∙ take-append-drop n ys

-- BEHIND ONE KEY
-- values are in the order of their entries
pub behind_same : (o : Ordering) (key other value other_value : ℕ) → key ≡ other → Answers o value other_value
    → Answers o (rank (key, value)) (rank (other, other_value))
behind_same Less key other value other_value same is = omega (arith, same, is)
behind_same Equal key other value other_value same is = omega (arith, same, is)
behind_same Greater key other value other_value same is = omega (arith, same, is)
