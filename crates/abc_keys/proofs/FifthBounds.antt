-- Which scales are listed, and how far tonics, signs and modes lie along the line of fifths.
use Rattle.std.proofs.Common.{◌≡◌, ◌⊎◌, refl, sym, ◌∙◌, ℤ, pos, negsuc, ◌≤ℤ◌, ◌<ℤ◌, Bool, true, false, ◌||◌, cond, Some, None, inl, inr, arith, ap}
use Rattle.std.proofs.Common.{subst}
use lib.Signed.{lt_z}
use Rattle.std.proofs.lemmas.Int.{ints}
use Rattle.abc_keys.specs.declared.letters.Letter.{Letter}
use Rattle.abc_keys.specs.declared.letters.Letter.TheVariants.{C, D, E, F, G, A, B}
use Rattle.abc_keys.specs.declared.scales.Sign.{Sign}
use Rattle.abc_keys.specs.declared.scales.Sign.TheVariants.{Natural, Sharp, Flat}
use Rattle.abc_keys.specs.declared.scales.Mode.{Mode}
use Rattle.abc_keys.specs.declared.scales.Mode.TheVariants.{Major, Lydian, Mixolydian, Dorian, Minor, Phrygian, Locrian}
use Rattle.abc_keys.specs.declared.scales.Scale.{Scale}
use Rattle.abc_keys.specs.Fifths.{tonic_fifths, sign_fifths, mode_fifths, fifths_of, fifths_within, listed_count}

-- a number from seven flats to seven sharps is listed
some_listed : (z : ℤ) → negsuc 6 ≤ℤ z → z ≤ℤ pos 7 → fifths_within z ≡ Some z
some_listed z low high =
    let not_below : lt_z z (negsuc 6) ≡ false = grind (arith, ints) in
    let not_above : lt_z (pos 7) z ≡ false = grind (arith, ints) in
    rw (not_below, not_above) refl

-- and no other one is
none_listed : (z : ℤ) → (z <ℤ negsuc 6) ⊎ (pos 7 <ℤ z) → fifths_within z ≡ None
none_listed z (inl low) = let below : lt_z z (negsuc 6) ≡ true = grind (arith, ints) in rw below refl
none_listed z (inr high) =
    let not_below : lt_z z (negsuc 6) ≡ false = grind (arith, ints) in
    let above : lt_z (pos 7) z ≡ true = grind (arith, ints) in rw (not_below, above) refl

-- a scale that lies so far, from seven flats to seven sharps, has that count
pub has_count : (scale : Scale) (z : ℤ) → z ≡ fifths_of scale → negsuc 6 ≤ℤ z → z ≤ℤ pos 7 → Some z ≡ listed_count scale
unfolding listed_count
has_count scale z e low high = sym (some_listed z low high) ∙ ap fifths_within e

-- and one that lies further has none
pub has_no_count : (scale : Scale) → (fifths_of scale <ℤ negsuc 6) ⊎ (pos 7 <ℤ fifths_of scale) → None ≡ listed_count scale
unfolding listed_count
has_no_count scale out = sym (none_listed (fifths_of scale) out)

-- HOW FAR EACH PART LIES
pub tonic_fifths_small : (x : Letter) → (negsuc 0 ≤ℤ tonic_fifths x) × (tonic_fifths x ≤ℤ pos 5)
tonic_fifths_small C = (omega (arith, ints), omega (arith, ints))
tonic_fifths_small D = (omega (arith, ints), omega (arith, ints))
tonic_fifths_small E = (omega (arith, ints), omega (arith, ints))
tonic_fifths_small F = (omega (arith, ints), omega (arith, ints))
tonic_fifths_small G = (omega (arith, ints), omega (arith, ints))
tonic_fifths_small A = (omega (arith, ints), omega (arith, ints))
tonic_fifths_small B = (omega (arith, ints), omega (arith, ints))

pub sign_fifths_small : (x : Sign) → (negsuc 6 ≤ℤ sign_fifths x) × (sign_fifths x ≤ℤ pos 7)
sign_fifths_small Natural = (omega (arith, ints), omega (arith, ints))
sign_fifths_small Sharp = (omega (arith, ints), omega (arith, ints))
sign_fifths_small Flat = (omega (arith, ints), omega (arith, ints))

pub mode_fifths_small : (x : Mode) → (negsuc 4 ≤ℤ mode_fifths x) × (mode_fifths x ≤ℤ pos 1)
mode_fifths_small Major = (omega (arith, ints), omega (arith, ints))
mode_fifths_small Lydian = (omega (arith, ints), omega (arith, ints))
mode_fifths_small Mixolydian = (omega (arith, ints), omega (arith, ints))
mode_fifths_small Dorian = (omega (arith, ints), omega (arith, ints))
mode_fifths_small Minor = (omega (arith, ints), omega (arith, ints))
mode_fifths_small Phrygian = (omega (arith, ints), omega (arith, ints))
mode_fifths_small Locrian = (omega (arith, ints), omega (arith, ints))

-- THE COUNTS THAT ARE LISTED
-- a count that is listed is from seven flats to seven sharps
few_listed : (z count : ℤ) → fifths_within z ≡ Some count → (negsuc 6 ≤ℤ count) × (count ≤ℤ pos 7)
few_listed z count is = by_tests (lt_z z (negsuc 6)) (lt_z (pos 7) z) refl refl is
  where
    by_tests : (low high : Bool) → lt_z z (negsuc 6) ≡ low → lt_z (pos 7) z ≡ high → cond (low || high) None (Some z) ≡ Some count
        → (negsuc 6 ≤ℤ count) × (count ≤ℤ pos 7)
    by_tests true high l h chosen = absurd (cc)
    by_tests false true l h chosen = absurd (cc)
    by_tests false false l h chosen =
        let same : z ≡ count = cc in
        let bounds : (negsuc 6 ≤ℤ z) × (z ≤ℤ pos 7) = (grind (arith, ints), grind (arith, ints)) in
        subst (λ (n : ℤ). (negsuc 6 ≤ℤ n) × (n ≤ℤ pos 7)) same bounds

pub listed_few : (scale : Scale) (count : ℤ) → listed_count scale ≡ Some count → (negsuc 6 ≤ℤ count) × (count ≤ℤ pos 7)
unfolding listed_count
listed_few scale count is = few_listed (fifths_of scale) count is
