-- Keys cut from bytes lie in the ranges of their fronts.
use Rattle.std.proofs.Common.{Decides, ◌≡◌, ◌∙◌, ℕ, zero, suc, ◌*◌, ◌^◌, ◌%◌, ◌≤◌, List, [], ◌∷◌, ◌++◌}
use Rattle.std.proofs.Common.{length, drop, Bool, true, nat_eq, refl, sym, ap, subst, arith}
use Rattle.std.proofs.Math.Nat.{mul-le-mul_right}
use Rattle.std.proofs.lemmas.Bool.Decides.{Decides-eqb}
use Rattle.std.proofs.lemmas.Grind.{flat_map-append}
use Rattle.std.proofs.lemmas.Slice.Eq.{starts_is}
use Rattle.std.specs.List.{starts_with, flat_map}
use Rattle.index_keys.specs.Cuts.{cut_number, LiesWithin}

-- the least and the greatest
least : (n : ℕ) (xs : List ℕ) → cut_number n 0 [] ≤ cut_number n 0 xs
least zero xs = omega arith
least (suc n) [] = omega arith
least (suc n) (x ∷ xs) = let r = least n xs in let z : 0 * 256 ^ n ≤ x % 256 * 256 ^ n =
    mul-le-mul_right (256 ^ n) (omega arith) in omega (arith, r, z)

greatest : (n : ℕ) (xs : List ℕ) → cut_number n 0 xs ≤ cut_number n 255 []
greatest zero xs = omega arith
greatest (suc n) [] = let r = greatest n [] in let z : 0 * 256 ^ n ≤ 255 * 256 ^ n =
    mul-le-mul_right (256 ^ n) (omega arith) in omega (arith, r, z)
greatest (suc n) (x ∷ xs) = let r = greatest n xs in let h : x % 256 ≤ 255 = omega arith in
    let z : x % 256 * 256 ^ n ≤ 255 * 256 ^ n = mul-le-mul_right (256 ^ n) h in omega (arith, r, z)

pub cut_within : (n : ℕ) (front rest : List ℕ) → LiesWithin n front (front ++ rest)
cut_within zero front rest = record { from = omega arith; to = omega arith }
cut_within (suc n) [] rest = record { from = least (suc n) rest; to = greatest (suc n) rest }
cut_within (suc n) (x ∷ front) rest =
    let r = cut_within n front rest in
    let f = r.from in let t = r.to in
    record { from = omega (arith, f); to = omega (arith, t) }

-- what begins with a front has its key in the range of the front
pub begun_within : (width : ℕ) (whole front : List ℕ) → starts_with nat_eq whole front ≡ true → LiesWithin width front whole
begun_within width whole front is =
    let splits = (starts_is Decides-eqb whole front (starts_with nat_eq whole front) refl).0 is in
    subst (LiesWithin width front) (sym splits) (cut_within width front (drop (length front) whole))

-- so has a list of what is written as bytes, one after another, where it begins with another
pub begun_list_within : {X : Type 0} (same : X → X → Bool) → ((x y : X) → Decides (same x y) (x ≡ y))
    → (bytes_of : X → List ℕ) (width : ℕ) (whole front : List X)
    → starts_with same whole front ≡ true → LiesWithin width (flat_map bytes_of front) (flat_map bytes_of whole)
begun_list_within same decides bytes_of width whole front is =
    let rest = drop (length front) whole in
    let splits = (starts_is decides whole front (starts_with same whole front) refl).0 is in
    let bytes : flat_map bytes_of front ++ flat_map bytes_of rest ≡ flat_map bytes_of whole =
    sym (flat_map-append bytes_of front rest) ∙ ap (flat_map bytes_of) (sym splits) in
    subst (LiesWithin width (flat_map bytes_of front)) bytes (cut_within width (flat_map bytes_of front) (flat_map bytes_of rest))
