-- Scales that are the same by their numbers are one.
use Rattle.std.proofs.Common.{◌≡◌, ℕ, true, cond, eqb, refl, ap, sym, ◌∙◌}
use Rattle.std.specs.Prelude.{◌&&◌}
use Rattle.std.proofs.lemmas.Bool.{and_parts, eqb-true, eq-eqb}
use Rattle.abc_keys.specs.declared.letters.Letter.{Letter}
use Rattle.abc_keys.specs.declared.letters.Letter.TheVariants as letter
use Rattle.abc_keys.specs.declared.scales.Scale.{Scale}
use Rattle.abc_keys.specs.declared.scales.Sign.{Sign}
use Rattle.abc_keys.specs.declared.scales.Sign.TheVariants.{Natural, Sharp, Flat}
use Rattle.abc_keys.specs.declared.scales.Mode.{Mode}
use Rattle.abc_keys.specs.declared.scales.Mode.TheVariants.{Major, Lydian, Mixolydian, Dorian}
use Rattle.abc_keys.specs.declared.scales.Mode.TheVariants.{Minor, Phrygian, Locrian}
use Rattle.abc_keys.specs.SameScales.{letter_number, sign_number, mode_number, same_scale}

letter_at : ℕ → Letter
letter_at n =
    cond (eqb n 0) letter.C (cond (eqb n 1) letter.D (cond (eqb n 2) letter.E
    (cond (eqb n 3) letter.F
    (cond (eqb n 4) letter.G (cond (eqb n 5) letter.A letter.B)))))

letter_back : (a : Letter) → letter_at (letter_number a) ≡ a
unfolding letter_at
letter_back letter.C = refl
letter_back letter.D = refl
letter_back letter.E = refl
letter_back letter.F = refl
letter_back letter.G = refl
letter_back letter.A = refl
letter_back letter.B = refl

sign_at : ℕ → Sign
sign_at n = cond (eqb n 0) Flat (cond (eqb n 1) Natural Sharp)

sign_back : (a : Sign) → sign_at (sign_number a) ≡ a
unfolding sign_at
sign_back Flat = refl
sign_back Natural = refl
sign_back Sharp = refl

mode_at : ℕ → Mode
mode_at n =
    cond (eqb n 0) Major (cond (eqb n 1) Lydian (cond (eqb n 2) Mixolydian (cond (eqb n 3) Dorian
    (cond (eqb n 4) Minor (cond (eqb n 5) Phrygian Locrian)))))

mode_back : (a : Mode) → mode_at (mode_number a) ≡ a
unfolding mode_at
mode_back Major = refl
mode_back Lydian = refl
mode_back Mixolydian = refl
mode_back Dorian = refl
mode_back Minor = refl
mode_back Phrygian = refl
mode_back Locrian = refl

pub same_is : (a b : Scale) → same_scale a b ≡ true → a ≡ b
same_is a b is =
    let parts = and_parts _ (eqb (mode_number a.mode) (mode_number b.mode)) is in
    let first = and_parts (eqb (letter_number a.tonic) (letter_number b.tonic))
    (eqb (sign_number a.sign) (sign_number b.sign)) parts.0 in
    let tonic : a.tonic ≡ b.tonic =
    sym (letter_back a.tonic) ∙ ap letter_at (eqb-true _ _ first.0) ∙ letter_back b.tonic in
    let sign : a.sign ≡ b.sign =
    sym (sign_back a.sign) ∙ ap sign_at (eqb-true _ _ first.1) ∙ sign_back b.sign in
    let mode : a.mode ≡ b.mode =
    sym (mode_back a.mode) ∙ ap mode_at (eqb-true _ _ parts.1) ∙ mode_back b.mode in
    (λ i. record { tonic = tonic i; sign = sign i; mode = mode i })

pub same_self : (a : Scale) → same_scale a a ≡ true
same_self a =
    let tonic = eq-eqb (letter_number a.tonic) (letter_number a.tonic) refl in
    let sign = eq-eqb (sign_number a.sign) (sign_number a.sign) refl in
    let mode = eq-eqb (mode_number a.mode) (mode_number a.mode) refl in
    (λ i. tonic i && sign i && mode i)
