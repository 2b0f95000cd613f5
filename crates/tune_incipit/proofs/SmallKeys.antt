-- Keys that are the bytes of steps, and zeros.
use Rattle.std.proofs.Common.{◌-◌, ℤ, append_assoc, length-drop}
use Rattle.std.proofs.Common.{◌≡◌, ℕ, zero, suc, ◌+◌, ◌*◌, ◌^◌, ◌%◌, ◌<◌, List, [], ◌∷◌, ◌++◌, length, take, drop, get_or, refl, sym, ap, subst, ◌∙◌, arith}
use Rattle.std.proofs.lemmas.Grind.{flat_map-append}
use Rattle.std.proofs.lemmas.List.{append-nil, take_all, take-append-drop}
use Rattle.byteorder.specs.Endian.{big_from, big_bytes}
use Rattle.byteorder.specs.Numbers.{big_number-reads_back}
use Rattle.index_keys.specs.Cuts.{cut_number}
use Rattle.index_keys.proofs.KeyNumbers.{AreBytes}
use Rattle.index_keys.proofs.KeyNumbers.{are_bytes, number_cons}
use Rattle.tune_incipit.specs.ScaleAndIncipitKeys.{bytes_of_steps, step_bytes}

tail_bytes : (n b : ℕ) (bs : List ℕ) → AreBytes (suc n) (b ∷ bs) → AreBytes n bs
tail_bytes n b bs h = record { size = let e = h.size in omega arith; small = λ k. h.small (suc k) }

-- bytes and zeros behind them spell what is cut from the bytes
pub cut_of_front : (n : ℕ) (front rest : List ℕ) → AreBytes n (front ++ rest) → ((k : ℕ) → k < length rest → get_or rest k 0 ≡ 0)
    → big_from 0 n (front ++ rest) ≡ cut_number n 0 front
cut_of_front zero [] [] h z = refl
cut_of_front zero [] (y ∷ rest) h z = let e = h.size in absurd (omega arith)
cut_of_front zero (x ∷ front) rest h z = let e = h.size in absurd (omega arith)
cut_of_front (suc n) [] [] h z = let e = h.size in absurd (omega arith)
cut_of_front (suc n) [] (y ∷ rest) h z =
    let own : y ≡ 0 = z 0 (omega arith) in
    number_cons n y rest ∙ (λ i. own i * 256 ^ n + cut_of_front n [] rest (tail_bytes n y rest h) (λ k b. z (suc k) (omega arith)) i)
cut_of_front (suc n) (x ∷ front) rest h z =
    let low : x < 256 = h.small 0 in
    let same : x ≡ x % 256 = omega arith in
    number_cons n x (front ++ rest) ∙ (λ i. same i * 256 ^ n + cut_of_front n front rest (tail_bytes n x (front ++ rest) h) z i)

-- a key of such bytes is what is cut from the front
pub key_of_front : (n key : ℕ) (front rest : List ℕ) → key < 256 ^ n → big_bytes n key ≡ front ++ rest → ((k : ℕ) → k < length rest → get_or rest k 0 ≡ 0)
    → key ≡ cut_number n 0 front
key_of_front n key front rest low is z =
    let back : big_from 0 n (big_bytes n key ++ []) ≡ key = big_number-reads_back n key [] low in
    let whole : big_from 0 n (big_bytes n key) ≡ key = rw append-nil at back in
    sym whole ∙ ap (big_from 0 n) is ∙ cut_of_front n front rest (subst (AreBytes n) is (are_bytes n key)) z

-- the bytes of one step more, from those that are left
pub one_more : (steps : List ℤ) (step : ℤ) (rest : List ℕ) → take 4 rest ≡ step_bytes step
    → bytes_of_steps steps ++ rest ≡ bytes_of_steps (steps ++ step ∷ []) ++ take (length rest - 4) (drop 4 rest)
one_more steps step rest is =
    let left : List ℕ = drop 4 rest in
    let all : take (length rest - 4) left ≡ left = take_all (length rest - 4) left (omega (arith, length-drop 4 rest)) in
    let split : rest ≡ step_bytes step ++ left = sym (take-append-drop 4 rest) ∙ ap (λ (front : List ℕ). front ++ left) is in
    let whole : bytes_of_steps (steps ++ step ∷ []) ≡ bytes_of_steps steps ++ step_bytes step =
    flat_map-append step_bytes steps (step ∷ []) ∙ ap (λ (bytes : List ℕ). bytes_of_steps steps ++ bytes) (append-nil (step_bytes step)) in
    ap (λ (bytes : List ℕ). bytes_of_steps steps ++ bytes) split ∙ sym (append_assoc (bytes_of_steps steps) (step_bytes step) left)
    ∙ sym (λ i. whole i ++ all i)
