-- Which scales are the same.
use Rattle.std.specs.Prelude.{ℕ, ◌==◌, ◌&&◌, Bool}
use Rattle.abc_keys.specs.declared.letters.Letter.{Letter}
use Rattle.abc_keys.specs.declared.letters.Letter.TheVariants.{C, D, E, F, G, A, B}
use Rattle.abc_keys.specs.declared.scales.Sign.{Sign}
use Rattle.abc_keys.specs.declared.scales.Sign.TheVariants.{Natural, Sharp, Flat}
use Rattle.abc_keys.specs.declared.scales.Mode.{Mode}
use Rattle.abc_keys.specs.declared.scales.Mode.TheVariants.{Major, Lydian, Mixolydian, Dorian}
use Rattle.abc_keys.specs.declared.scales.Mode.TheVariants.{Minor, Phrygian, Locrian}
use Rattle.abc_keys.specs.declared.scales.Scale.{Scale}

-- numbers by which letters, signs and modes are compared
abbrev pub letter_number : Letter → ℕ
letter_number C = 0
letter_number D = 1
letter_number E = 2
letter_number F = 3
letter_number G = 4
letter_number A = 5
letter_number B = 6

abbrev pub sign_number : Sign → ℕ
sign_number Flat = 0
sign_number Natural = 1
sign_number Sharp = 2

abbrev pub mode_number : Mode → ℕ
mode_number Major = 0
mode_number Lydian = 1
mode_number Mixolydian = 2
mode_number Dorian = 3
mode_number Minor = 4
mode_number Phrygian = 5
mode_number Locrian = 6

-- whether two scales are the same
abbrev pub same_scale : Scale → Scale → Bool
same_scale a b =
    letter_number a.tonic == letter_number b.tonic
    && sign_number a.sign == sign_number b.sign
    && mode_number a.mode == mode_number b.mode
