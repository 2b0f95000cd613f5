-- When a text is at the front of another, each byte changed by one function.
use Rattle.std.proofs.Common.{◌≡◌, ℕ, Bool, true, eqb, List, [], ◌∷◌, length, map, take, refl, ap, sym, ◌∙◌}
use Rattle.std.specs.Prelude.{nat_eq}
use Rattle.std.specs.List.{starts_with}
use Rattle.std.proofs.lemmas.Bool.{and_parts, eqb-true, eq-eqb}
use Rattle.std.proofs.lemmas.List.{length-map, take-map}
use Rattle.std.specs.Cmp.{both_ways}

front_is : (front text : List ℕ) → take (length front) text ≡ front → starts_with nat_eq text front ≡ true
front_is [] text e = refl
front_is (x ∷ front) [] e = cc
front_is (x ∷ front) (y ∷ text) e =
    let first : x ≡ y = cc in
    let later : take (length front) text ≡ front = cc in
    rw (eq-eqb x y first) (front_is front text later)

is_front : (front text : List ℕ) → starts_with nat_eq text front ≡ true → take (length front) text ≡ front
is_front [] text e = refl
is_front (x ∷ front) [] e = cc
is_front (x ∷ front) (y ∷ text) e =
    let both = and_parts (eqb x y) (starts_with nat_eq text front) e in
    rw (eqb-true x y both.0, is_front front text both.1) refl

-- a test of the bytes at the front is a test of fronts
pub front_test : (f : ℕ → ℕ) (front text : List ℕ) (b : Bool) → (b ≡ true → map f (take (length front) text) ≡ map f front)
    → (map f (take (length front) text) ≡ map f front → b ≡ true) → b ≡ starts_with nat_eq (map f text) (map f front)
front_test f front text b to back =
    let taken : take (length (map f front)) (map f text) ≡ map f (take (length front) text) =
    ap (λ n. take n (map f text)) (length-map front f) ∙ take-map f (length front) text in
    both_ways b _ (λ is. front_is (map f front) (map f text) (taken ∙ to is)) (λ is. back (sym taken ∙ is_front (map f front) (map f text) is))
