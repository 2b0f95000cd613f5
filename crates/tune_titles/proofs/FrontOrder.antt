-- The order of texts by the numbers of their first letters.
use Rattle.std.proofs.Common.{◌≡◌, ℕ, zero, suc, ◌+◌, ◌*◌, ◌^◌, ◌%◌, ◌<◌, ◌≤◌, List, [], ◌∷◌, length, drop, get_or, refl, sym, ap, ◌∙◌, arith}
use Rattle.std.proofs.Common.{Ordering, append-nil}
use Rattle.std.proofs.Math.Nat.{mul-le-mul_right, add-mul}
use Rattle.std.proofs.lemmas.Bool.Decides.{nat_tests}
use Rattle.std.proofs.lemmas.List.{drop-map, length-map}
use Rattle.std.specs.Char.{to_ascii_lowercase}
use Rattle.std.specs.declared.cmp.Ordering.TheVariants.{Less, Equal, Greater}
use Rattle.std.specs.Ordering.{nat_cmp, ordering_then, ordering_reverse}
use Rattle.std.specs.Cmp.{ranks}
use Rattle.std.specs.Cmp.Lexicographic.{slice_cmp, nat_list_cmp_total}
use Rattle.byteorder.specs.Endian.{big_number, big_bytes}
use Rattle.byteorder.specs.Numbers.{big_number-reads_back}
use Rattle.index_keys.specs.Cuts.{cut_number}
use Rattle.index_keys.proofs.CutLaw.{cut_within}
use Rattle.index_keys.proofs.KeyNumbers.{Answers}
use Rattle.tune_titles.specs.Articles.{small_letters}
use Rattle.tune_titles.specs.Order.{small_order}

abbrev pub AreSmall : List ℕ → Type 0
AreSmall xs = (i : ℕ) → get_or xs i 0 < 256

-- a small letter is a byte, as the letter is
small_letter : (byte : ℕ) → byte < 256 → to_ascii_lowercase byte < 256
small_letter byte h = grind (arith, nat_tests)

pub letters_small : (text : List ℕ) → AreSmall text → AreSmall (small_letters text)
letters_small [] small i = omega arith
letters_small (x ∷ xs) small zero = small_letter x (small 0)
letters_small (x ∷ xs) small (suc i) = letters_small xs (λ k. small (suc k)) i

-- a lower first digit makes a lower number
digit_lt : (p x y r s : ℕ) → x < y → r < p → x * p + r < y * p + s
digit_lt p x y r s h k =
    let top : (x + 1) * p ≤ y * p = mul-le-mul_right p (omega arith) in
    let expand : (x + 1) * p ≡ x * p + 1 * p = add-mul x 1 p in
    omega arith

cut_lt : (n : ℕ) (xs : List ℕ) → cut_number n 0 xs < 256 ^ n
cut_lt zero xs = omega arith
cut_lt (suc n) [] = let r = cut_lt n [] in omega (arith, r)
cut_lt (suc n) (x ∷ xs) =
    let r = cut_lt n xs in
    let first : x % 256 < 256 = omega arith in
    let d = digit_lt (256 ^ n) (x % 256) 256 (cut_number n 0 xs) 0 first r in
    omega (arith, d)

byte_lt : (x y : ℕ) → x < 256 → y < 256 → x < y → x % 256 < y % 256
byte_lt x y p q l = omega arith

-- the lower number is that of the text that comes first
pub before : (n : ℕ) (xs ys : List ℕ) → AreSmall xs → AreSmall ys → cut_number n 0 xs < cut_number n 0 ys → slice_cmp nat_cmp xs ys ≡ Less
before zero xs ys p q l = absurd (omega (arith, l))
before (suc n) [] [] p q l = absurd (omega (arith, l))
before (suc n) (x ∷ xs) [] p q l = absurd (let low = (cut_within (suc n) [] (x ∷ xs)).from in omega (arith, low, l))
before (suc n) [] (y ∷ ys) p q l = refl
before (suc n) (x ∷ xs) (y ∷ ys) p q l = elim (nat_cmp x y) as (λ o. Answers o x y → ordering_then o (slice_cmp nat_cmp xs ys) ≡ Less) [
  | Less ↦ λ h. refl
  | Equal ↦ λ h.
      let e : x % 256 * 256 ^ n ≡ y % 256 * 256 ^ n = ap (λ (z : ℕ). z % 256 * 256 ^ n) h in
      before n xs ys (λ i. p (suc i)) (λ i. q (suc i)) (omega (arith, l, e))
  | Greater ↦ λ h.
      absurd (let d = digit_lt (256 ^ n) (y % 256) (x % 256) (cut_number n 0 ys) (cut_number n 0 xs) (byte_lt y x (q 0) (p 0) h) (cut_lt n ys) in
      omega (arith, l, d))
] (ranks x y)

-- texts of one number are alike as far as the number goes
pub behind : (n k : ℕ) (xs ys : List ℕ) → AreSmall xs → AreSmall ys → cut_number n 0 xs ≡ cut_number n 0 ys → k ≤ n → k ≤ length xs → k ≤ length ys
    → slice_cmp nat_cmp (drop k xs) (drop k ys) ≡ slice_cmp nat_cmp xs ys
behind n zero xs ys p q e a b c = refl
behind zero (suc k) xs ys p q e a b c = absurd (omega (arith, a))
behind (suc n) (suc k) [] ys p q e a b c = absurd (omega (arith, b))
behind (suc n) (suc k) (x ∷ xs) [] p q e a b c = absurd (omega (arith, c))
behind (suc n) (suc k) (x ∷ xs) (y ∷ ys) p q e a b c =
    elim (nat_cmp x y) as (λ o. Answers o x y → slice_cmp nat_cmp (drop k xs) (drop k ys) ≡ ordering_then o (slice_cmp nat_cmp xs ys)) [
      | Less ↦ λ h.
          absurd (let d = digit_lt (256 ^ n) (x % 256) (y % 256) (cut_number n 0 xs) (cut_number n 0 ys) (byte_lt x y (p 0) (q 0) h) (cut_lt n xs) in
          omega (arith, e, d))
      | Equal ↦ λ h.
          let f : x % 256 * 256 ^ n ≡ y % 256 * 256 ^ n = ap (λ (z : ℕ). z % 256 * 256 ^ n) h in
          behind n k xs ys (λ i. p (suc i)) (λ i. q (suc i)) (omega (arith, e, f)) (omega (arith, a)) (omega (arith, b)) (omega (arith, c))
      | Greater ↦ λ h.
          absurd (let d = digit_lt (256 ^ n) (y % 256) (x % 256) (cut_number n 0 ys) (cut_number n 0 xs) (byte_lt y x (q 0) (p 0) h) (cut_lt n ys) in
          omega (arith, e, d))
    ] (ranks x y)

-- the order of two texts by the order of their numbers
pub by_fronts : (n : ℕ) (a b : List ℕ) (o : Ordering) → AreSmall a → AreSmall b
    → o ≡ nat_cmp (cut_number n 0 (small_letters a)) (cut_number n 0 (small_letters b)) → (o ≡ Equal → ⊥) → o ≡ small_order a b
by_fronts n a b o p q is unequal =
    let xs = small_letters a in
    let ys = small_letters b in
    elim (nat_cmp (cut_number n 0 xs) (cut_number n 0 ys)) as
    (λ t. Answers t (cut_number n 0 xs) (cut_number n 0 ys) → o ≡ t → o ≡ small_order a b) [
      | Less ↦ λ h e. e ∙ sym (before n xs ys (letters_small a p) (letters_small b q) h)
      | Equal ↦ λ h e. absurd (unequal e)
      | Greater ↦ λ h e.
          e ∙ ap ordering_reverse (sym (before n ys xs (letters_small b q) (letters_small a p) h)) ∙ sym (nat_list_cmp_total.antisymm xs ys)
    ] (ranks (cut_number n 0 xs) (cut_number n 0 ys)) is

pub behind_fronts : (n k : ℕ) (a b : List ℕ) → AreSmall a → AreSmall b
    → cut_number n 0 (small_letters a) ≡ cut_number n 0 (small_letters b) → k ≤ n → k ≤ length a → k ≤ length b
    → small_order (drop k a) (drop k b) ≡ small_order a b
behind_fronts n k a b p q e w l m =
    let long_a : length (small_letters a) ≡ length a = length-map a to_ascii_lowercase in
    let long_b : length (small_letters b) ≡ length b = length-map b to_ascii_lowercase in
    ap (λ (x : List ℕ). slice_cmp nat_cmp x (small_letters (drop k b))) (sym (drop-map to_ascii_lowercase k a))
    ∙ ap (λ (x : List ℕ). slice_cmp nat_cmp (drop k (small_letters a)) x) (sym (drop-map to_ascii_lowercase k b))
    ∙ behind n k (small_letters a) (small_letters b) (letters_small a p) (letters_small b q) e w (omega (arith, l, long_a)) (omega (arith, m, long_b))

-- a number that was read back of the bytes of a key
pub read_back : (n read key : ℕ) (bytes : List ℕ) → read ≡ big_number n bytes → bytes ≡ big_bytes n key → key < 256 ^ n → read ≡ key
read_back n read key bytes r b l =
    r ∙ ap (big_number n) (b ∙ sym (append-nil (big_bytes n key))) ∙ big_number-reads_back n key [] l
