-- From which count of sharps or flats on a letter is sharp or flat.
use Rattle.std.specs.Prelude.{ℤ, neg_ℤ, not, if◌then◌else◌, int_lt}
use Rattle.abc_keys.specs.declared.letters.Accidental.{Accidental}
use Rattle.abc_keys.specs.declared.letters.Accidental.TheVariants as accidental

-- sharp from so many sharps on, flat from so many flats on
abbrev pub by_count : ℤ → ℤ → ℤ → Accidental
by_count count sharp_from flat_from =
    if not (int_lt count sharp_from) then accidental.Sharp
    else if not (int_lt (neg_ℤ flat_from) count) then accidental.Flat
    else accidental.Natural
