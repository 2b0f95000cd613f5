-- Keys as numbers: the bytes of a key are those of its number, and the order of the bytes is
-- that of the numbers.
use Rattle.std.proofs.Common.{◌≡◌, ℕ, zero, suc, ◌+◌, ◌/◌, ◌*◌, ◌^◌, ◌<◌, ◌≤◌, List, [], ◌∷◌, ◌++◌}
use Rattle.std.proofs.Common.{length, slice_index, subst, refl, sym, ap, ◌∙◌, arith, Ordering}
use Rattle.std.specs.Ordering.{nat_cmp, ordering_then, MatchOrdering}
use Rattle.std.specs.declared.cmp.Ordering.TheVariants.{Less, Equal, Greater}
use Rattle.std.specs.Cmp.{ranks}
use Rattle.std.specs.Cmp.Lexicographic.{slice_cmp}
use Rattle.std.specs.Int.{bytes_high_first}
use Rattle.std.proofs.lemmas.List.{append-nil}
use Rattle.std.proofs.Math.Nat.{mul-le-mul_right, add-mul, mod-lt}
use Rattle.byteorder.specs.Endian.{big_from, big_bytes}
use Rattle.byteorder.specs.Numbers.{big_from-cons, big_from-lt, big_number-reads_back}
use Rattle.byteorder.specs.Numbers.{length-bytes_high_first}

-- a list of n bytes
pub record AreBytes (n : ℕ) (bytes : List ℕ) : Type 0 where
  pub size : length bytes ≡ n
  pub small : (k : ℕ) → slice_index bytes k < 256

-- what an answer says of two numbers
abbrev pub Answers : Ordering → ℕ → ℕ → Type 0
Answers o m n = MatchOrdering o (m < n) (m ≡ n) (n < m)

-- a lower first digit makes a lower number
digit_lt : (p x y r s : ℕ) → x < y → r < p → x * p + r < y * p + s
digit_lt p x y r s h k =
    let top : (x + 1) * p ≤ y * p = mul-le-mul_right p (omega arith) in
    let expand : (x + 1) * p ≡ x * p + 1 * p = add-mul x 1 p in
    omega arith

-- the rest of a list of bytes
tail_bytes : (n b : ℕ) (bs : List ℕ) → AreBytes (suc n) (b ∷ bs) → AreBytes n bs
tail_bytes n b bs h = record { size = let e = h.size in omega arith; small = λ k. h.small (suc k) }

-- the number with one byte more in front
pub number_cons : (n b : ℕ) (bs : List ℕ)
    → big_from 0 (suc n) (b ∷ bs) ≡ b * 256 ^ n + big_from 0 n bs
number_cons n b bs = ap (λ (r : ℕ). b * 256 ^ n + r) (big_from-cons 0 n b bs)

-- one digit more in front of two numbers that are compared
pub digits : (p x y r s : ℕ) (o q : Ordering) → r < p → s < p → Answers o x y → Answers q r s
    → Answers (ordering_then o q) (x * p + r) (y * p + s)
digits p x y r s Less q hr hs a b = digit_lt p x y r s a hr
digits p x y r s Greater q hr hs a b = digit_lt p y x s r a hs
digits p x y r s Equal Less hr hs a b = let e : x * p ≡ y * p = ap (λ (z : ℕ). z * p) a in omega
    arith
digits p x y r s Equal Equal hr hs a b = let e : x * p ≡ y * p = ap (λ (z : ℕ). z * p) a in omega
    arith
digits p x y r s Equal Greater hr hs a b = let e : x * p ≡ y * p = ap (λ (z : ℕ). z * p) a in omega
    arith

-- the order of bytes is that of the numbers that they spell
pub bytes_rank : (n : ℕ) (xs ys : List ℕ) → AreBytes n xs → AreBytes n ys
    → Answers (slice_cmp nat_cmp xs ys) (big_from 0 n xs) (big_from 0 n ys)
bytes_rank zero [] [] h k = refl
bytes_rank zero (x ∷ xs) ys h k = let e = h.size in absurd (omega arith)
bytes_rank zero [] (y ∷ ys) h k = let e = k.size in absurd (omega arith)
bytes_rank (suc n) [] ys h k = let e = h.size in absurd (omega arith)
bytes_rank (suc n) (x ∷ xs) [] h k = let e = k.size in absurd (omega arith)
bytes_rank (suc n) (x ∷ xs) (y ∷ ys) h k =
    let hx = tail_bytes n x xs h in
    let hy = tail_bytes n y ys k in
    rw (number_cons n x xs, number_cons n y ys)
    (digits (256 ^ n) x y (big_from 0 n xs) (big_from 0 n ys) (nat_cmp x y)
    (slice_cmp nat_cmp xs ys)
    (big_from-lt 0 n xs hx.small) (big_from-lt 0 n ys hy.small) (ranks x y)
    (bytes_rank n xs ys hx hy))

-- a digit and the rest can be told from their number
digit_same : (p x y r s : ℕ) → r < p → s < p → x * p + r ≡ y * p + s → x ≡ y
digit_same p x y r s hr hs e = elim (nat_cmp x y) as (λ o. Answers o x y → x ≡ y) [
  | Less ↦ λ h. absurd (let l = digit_lt p x y r s h hr in omega arith)
  | Equal ↦ λ h. h
  | Greater ↦ λ h. absurd (let l = digit_lt p y x s r h hs in omega arith)
] (ranks x y)

-- two lists of bytes with one number are the same
pub same_bytes : (n : ℕ) (xs ys : List ℕ) → AreBytes n xs → AreBytes n ys
    → big_from 0 n xs ≡ big_from 0 n ys → xs ≡ ys
same_bytes zero [] [] h k e = refl
same_bytes zero (x ∷ xs) ys h k e = let l = h.size in absurd (omega arith)
same_bytes zero [] (y ∷ ys) h k e = let l = k.size in absurd (omega arith)
same_bytes (suc n) [] ys h k e = let l = h.size in absurd (omega arith)
same_bytes (suc n) (x ∷ xs) [] h k e = let l = k.size in absurd (omega arith)
same_bytes (suc n) (x ∷ xs) (y ∷ ys) h k e =
    let hx = tail_bytes n x xs h in
    let hy = tail_bytes n y ys k in
    let lx = big_from-lt 0 n xs hx.small in
    let ly = big_from-lt 0 n ys hy.small in
    let f : x * 256 ^ n + big_from 0 n xs ≡ y * 256 ^ n + big_from 0 n ys = sym
    (number_cons n x xs) ∙ e ∙ number_cons n y ys in
    let first : x ≡ y = digit_same (256 ^ n) x y (big_from 0 n xs) (big_from 0 n ys) lx ly f in
    let scaled : x * 256 ^ n ≡ y * 256 ^ n = ap (λ (z : ℕ). z * 256 ^ n) first in
    let rest : xs ≡ ys = same_bytes n xs ys hx hy (omega arith) in
    cc

-- each byte of a number is a byte
small_bytes : (n x k : ℕ) → slice_index (bytes_high_first n x) k < 256
small_bytes zero x k = omega arith
small_bytes (suc zero) x zero = let h : zero < 256 = omega arith in mod-lt x h
small_bytes (suc (suc n)) x zero = let h : zero < 256 = omega arith in mod-lt (x / 256 ^ suc n) h
small_bytes (suc n) x (suc k) = small_bytes n x k

-- the bytes of a number are bytes
pub are_bytes : (n x : ℕ) → AreBytes n (big_bytes n x)
are_bytes n x = record { size = length-bytes_high_first n x; small = small_bytes n x }

-- the bytes of the number that bytes spell are those bytes
pub bytes_back : (n : ℕ) (xs : List ℕ) → AreBytes n xs → big_bytes n (big_from 0 n xs) ≡ xs
bytes_back n xs h =
    let e : big_from 0 n (bytes_high_first n (big_from 0 n xs) ++ []) ≡ big_from 0 n xs =
    big_number-reads_back n (big_from 0 n xs) [] (big_from-lt 0 n xs h.small) in
    same_bytes n (bytes_high_first n (big_from 0 n xs)) xs (are_bytes n (big_from 0 n xs)) h
    (rw append-nil at e)

-- bytes that are those of their number are so many bytes
pub bytes_of_back : (n : ℕ) (xs : List ℕ) → big_bytes n (big_from 0 n xs) ≡ xs → AreBytes n xs
bytes_of_back n xs back = subst (AreBytes n) back (are_bytes n (big_from 0 n xs))
