-- A byte names a letter where it is one of the small letters a to g once its bit of small letters is set.
use Rattle.std.proofs.Common.{◌≡◌, ℕ, zero, suc, ◌<◌, Bool, true, false, refl, arith, inl, inr, subst}
use Rattle.std.specs.Prelude.{◌&&◌, nat_lt, bit_or, if◌then◌else◌}
use Rattle.std.proofs.lemmas.Bool.{cases_lt}
use Rattle.abc_items.specs.NoteFronts.{is_note_name}

all_below : (ℕ → Bool) → ℕ → Bool
all_below f zero = true
all_below f (suc n) = f n && all_below f n

and_first : (a b : Bool) → (a && b) ≡ true → a ≡ true
and_first true b e = refl
and_first false b e = absurd (cc)

and_second : (a b : Bool) → (a && b) ≡ true → b ≡ true
and_second true b e = e
and_second false b e = absurd (cc)

one_below : (f : ℕ → Bool) (n k : ℕ) → all_below f n ≡ true → k < n → f k ≡ true
unfolding all_below
one_below f zero k e less = absurd (omega arith)
one_below f (suc n) k e less = elim (cases_lt k n) [
  | inl below ↦ one_below f n k (and_second (f n) (all_below f n) e) below
  | inr above ↦ let is : n ≡ k = omega arith in subst (λ (m : ℕ). f m ≡ true) is (and_first (f n) (all_below f n) e)
]

-- whether a byte with the bit set is from a to g
abbrev pub is_small_name : ℕ → Bool
is_small_name byte = nat_lt 96 (bit_or byte 32) && nat_lt (bit_or byte 32) 104

same_bool : Bool → Bool → Bool
same_bool true b = b
same_bool false b = if b then false else true

same_is : (a b : Bool) → same_bool a b ≡ true → a ≡ b
unfolding same_bool
same_is true true e = refl
same_is true false e = absurd (cc)
same_is false true e = absurd (cc)
same_is false false e = refl

pub small_name : (byte : ℕ) → byte < 256 → is_small_name byte ≡ is_note_name byte
unfolding all_below same_bool
small_name byte less =
    same_is (is_small_name byte) (is_note_name byte) (one_below (λ b. same_bool (is_small_name b) (is_note_name b)) 256 byte refl less)
