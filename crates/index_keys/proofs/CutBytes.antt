-- A key cut from bytes, as the number that its bytes spell.
use Rattle.std.proofs.Common.{◌≡◌, ℕ, zero, suc, ◌+◌, ◌*◌, ◌^◌, ◌%◌, ◌<◌, ◌≤◌, List, [], ◌∷◌, ◌++◌, length, take, drop, get_or, replicate, refl, sym, ap, ◌∙◌}
use Rattle.std.proofs.Common.{map, arith}
use Rattle.std.proofs.lemmas.List.{length-map, length-take-le, map-append, take-map, take_at, drop_at}
use Rattle.std.proofs.lemmas.Bool.Decides.{nat_tests}
use Rattle.std.specs.Char.{to_ascii_lowercase}
use Rattle.byteorder.specs.Endian.{big_from}
use Rattle.byteorder.specs.Numbers.{big_from-cons}
use Rattle.index_keys.specs.Cuts.{cut_number}

number_cons : (n b : ℕ) (bs : List ℕ) → big_from 0 (suc n) (b ∷ bs) ≡ b * 256 ^ n + big_from 0 n bs
number_cons n b bs = ap (λ (r : ℕ). b * 256 ^ n + r) (big_from-cons 0 n b bs)

pub cut_is : (n fill count : ℕ) (bytes : List ℕ) → ((i : ℕ) → get_or bytes i 0 < 256) → count ≤ n → count ≤ length bytes → (count < n → length bytes ≤ count)
    → big_from 0 n (take count bytes ++ drop count (replicate n fill)) ≡ cut_number n fill bytes
cut_is zero fill zero bytes small a b c = refl
cut_is zero fill (suc k) bytes small a b c = absurd (omega arith)
cut_is (suc n) fill zero [] small a b c =
    number_cons n fill (replicate n fill) ∙ ap (λ (x : ℕ). fill * 256 ^ n + x) (cut_is n fill zero [] small (omega arith) (omega arith) (λ l. omega arith))
cut_is (suc n) fill zero (x ∷ xs) small a b c = absurd (let d = c (omega arith) in omega arith)
cut_is (suc n) fill (suc k) [] small a b c = absurd (omega arith)
cut_is (suc n) fill (suc k) (x ∷ xs) small a b c =
    let own : x < 256 = small 0 in
    let same : x ≡ x % 256 = omega arith in
    number_cons n x (take k xs ++ drop k (replicate n fill))
    ∙ ap (λ (z : ℕ). x * 256 ^ n + z) (cut_is n fill k xs (λ i. small (suc i)) (omega arith) (omega arith) (λ l. let d = c (omega arith) in omega arith))
    ∙ ap (λ (z : ℕ). z * 256 ^ n + cut_number n fill xs) same

-- a small letter is a byte, as the letter is
small_letter : (byte : ℕ) → byte < 256 → to_ascii_lowercase byte < 256
small_letter byte h = grind (arith, nat_tests)

small_letters : (bytes : List ℕ) → ((i : ℕ) → get_or bytes i 0 < 256) → (i : ℕ) → get_or (map to_ascii_lowercase bytes) i 0 < 256
small_letters [] small i = omega arith
small_letters (x ∷ xs) small zero = small_letter x (small 0)
small_letters (x ∷ xs) small (suc i) = small_letters xs (λ k. small (suc k)) i

-- the front that was copied, with its capital letters made small
pub cut_small_is : (n fill count : ℕ) (bytes front letters : List ℕ) → ((i : ℕ) → get_or bytes i 0 < 256) → count ≤ n → count ≤ length bytes
    → (count < n → length bytes ≤ count)
    → front ≡ take count bytes → letters ≡ map to_ascii_lowercase (take count (front ++ drop count (replicate n fill)))
    → big_from 0 n (letters ++ drop count (front ++ drop count (replicate n fill))) ≡ cut_number n fill (map to_ascii_lowercase bytes)
cut_small_is n fill count bytes front letters small a b c f l =
    let rest = drop count (replicate n fill) in
    let own : length front ≡ count = ap length f ∙ length-take-le count bytes b in
    let made : letters ≡ take count (map to_ascii_lowercase bytes) =
    l ∙ ap (map to_ascii_lowercase) (take_at front rest count own ∙ f) ∙ sym (take-map to_ascii_lowercase count bytes) in
    let long : length (map to_ascii_lowercase bytes) ≡ length bytes = length-map bytes to_ascii_lowercase in
    ap (λ (x : List ℕ). big_from 0 n (letters ++ x)) (drop_at front rest count own) ∙ ap (λ (x : List ℕ). big_from 0 n (x ++ rest)) made
    ∙ cut_is n fill count (map to_ascii_lowercase bytes) (small_letters bytes small) a (omega (arith, long)) (λ h. let d = c h in omega (arith, long))

-- THE WHOLE KEY MADE SMALL
same_fill : (fill n : ℕ) → to_ascii_lowercase fill ≡ fill → map to_ascii_lowercase (replicate n fill) ≡ replicate n fill
same_fill fill zero same = refl
same_fill fill (suc n) same = λ i. same i ∷ same_fill fill n same i

-- what fills a key up stays where it is no capital letter
fill_stays : (fill count n : ℕ) → to_ascii_lowercase fill ≡ fill → map to_ascii_lowercase (drop count (replicate n fill)) ≡ drop count (replicate n fill)
fill_stays fill zero n same = same_fill fill n same
fill_stays fill (suc k) zero same = refl
fill_stays fill (suc k) (suc n) same = fill_stays fill k n same

pub cut_whole_small_is : (n fill count : ℕ) (bytes front letters : List ℕ) → ((i : ℕ) → get_or bytes i 0 < 256) → count ≤ n → count ≤ length bytes
    → (count < n → length bytes ≤ count) → to_ascii_lowercase fill ≡ fill
    → front ≡ take count bytes → letters ≡ map to_ascii_lowercase (front ++ drop count (replicate n fill))
    → big_from 0 n letters ≡ cut_number n fill (map to_ascii_lowercase bytes)
cut_whole_small_is n fill count bytes front letters small a b c same f l =
    let rest = drop count (replicate n fill) in
    let made : map to_ascii_lowercase front ≡ take count (map to_ascii_lowercase bytes) =
    ap (map to_ascii_lowercase) f ∙ sym (take-map to_ascii_lowercase count bytes) in
    let long : length (map to_ascii_lowercase bytes) ≡ length bytes = length-map bytes to_ascii_lowercase in
    ap (big_from 0 n) (l ∙ map-append to_ascii_lowercase front rest)
    ∙ (λ i. big_from 0 n (made i ++ fill_stays fill count n same i))
    ∙ cut_is n fill count (map to_ascii_lowercase bytes) (small_letters bytes small) a (omega (arith, long)) (λ h. let d = c h in omega (arith, long))
