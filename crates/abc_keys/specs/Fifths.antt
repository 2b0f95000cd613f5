-- The line of fifths: how far along it a scale lies from C major. So many sharps it has, or flats
-- below zero (ABC 2.1, 3.1.14, carried on to seven sharps and seven flats in each mode). `negsuc n`
-- is -(n + 1).
use Rattle.std.specs.Prelude.{◌||◌, if◌then◌else◌, ℤ, pos, negsuc, ◌+ℤ◌, int_lt, Option, Some, None}
use Rattle.abc_keys.specs.declared.letters.Letter.{Letter}
use Rattle.abc_keys.specs.declared.letters.Letter.TheVariants.{C, D, E, F, G, A, B}
use Rattle.abc_keys.specs.declared.scales.Sign.{Sign}
use Rattle.abc_keys.specs.declared.scales.Sign.TheVariants.{Natural, Sharp, Flat}
use Rattle.abc_keys.specs.declared.scales.Mode.{Mode}
use Rattle.abc_keys.specs.declared.scales.Mode.TheVariants.{Major, Lydian, Mixolydian, Dorian}
use Rattle.abc_keys.specs.declared.scales.Mode.TheVariants.{Minor, Phrygian, Locrian}
use Rattle.abc_keys.specs.declared.scales.Scale.{Scale}

-- the fifths from C up to a tonic without a sign
abbrev pub tonic_fifths : Letter → ℤ
tonic_fifths F = negsuc 0
tonic_fifths C = pos 0
tonic_fifths G = pos 1
tonic_fifths D = pos 2
tonic_fifths A = pos 3
tonic_fifths E = pos 4
tonic_fifths B = pos 5

-- the fifths that a sign adds
abbrev pub sign_fifths : Sign → ℤ
sign_fifths Flat = negsuc 6
sign_fifths Natural = pos 0
sign_fifths Sharp = pos 7

-- the fifths that a mode adds, from major
abbrev pub mode_fifths : Mode → ℤ
mode_fifths Lydian = pos 1
mode_fifths Major = pos 0
mode_fifths Mixolydian = negsuc 0
mode_fifths Dorian = negsuc 1
mode_fifths Minor = negsuc 2
mode_fifths Phrygian = negsuc 3
mode_fifths Locrian = negsuc 4

-- how many fifths a scale lies from C major: its sharps, or its flats below zero
abbrev pub fifths_of : Scale → ℤ
fifths_of scale = tonic_fifths scale.tonic +ℤ sign_fifths scale.sign +ℤ mode_fifths scale.mode

-- a count from seven flats to seven sharps
abbrev pub fifths_within : ℤ → Option ℤ
fifths_within count = if int_lt count (negsuc 6) || int_lt (pos 7) count then None else Some count

-- the count of sharps, or of flats below zero, of a scale that is listed: from seven flats to seven
-- sharps
unfoldable pub listed_count : Scale → Option ℤ
listed_count scale = fifths_within (fifths_of scale)
