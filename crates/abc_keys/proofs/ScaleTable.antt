-- The standard's table of scales, carried on to seven sharps and seven flats in each mode (ABC 2.1,
-- 3.1.14): the scales that stand in it are those that are listed by their fifths, each with its
-- count of sharps or flats.
use Rattle.std.proofs.Common.{◌≡◌, ℤ, pos, negsuc, cond, List, [], ◌∷◌, Option, Some, None, refl}
use Rattle.abc_keys.specs.declared.letters.Letter.{Letter}
use Rattle.abc_keys.specs.declared.letters.Letter.TheVariants.{C, D, E, F, G, A, B}
use Rattle.abc_keys.specs.declared.scales.Sign.{Sign}
use Rattle.abc_keys.specs.declared.scales.Sign.TheVariants.{Natural, Sharp, Flat}
use Rattle.abc_keys.specs.declared.scales.Mode.{Mode}
use Rattle.abc_keys.specs.declared.scales.Mode.TheVariants.{Major, Lydian, Mixolydian, Dorian}
use Rattle.abc_keys.specs.declared.scales.Mode.TheVariants.{Minor, Phrygian, Locrian}
use Rattle.abc_keys.specs.declared.scales.Scale.{Scale}
use Rattle.abc_keys.specs.Fifths.{listed_count}
use Rattle.abc_keys.specs.SameScales.{same_scale}

-- a scale, and its count of sharps, or of flats below zero
record ScaleRow : Type 0 where
  scale : Scale
  count : ℤ

-- a row of the table
abbrev row : Letter → Sign → Mode → ℤ → ScaleRow
row tonic sign mode count = record {
  scale = record { tonic = tonic; sign = sign; mode = mode };
  count = count;
}

-- by mode, from seven flats to seven sharps
abbrev table : List ScaleRow
table =
    row C Flat Major (negsuc 6) ∷
    row G Flat Major (negsuc 5) ∷
    row D Flat Major (negsuc 4) ∷
    row A Flat Major (negsuc 3) ∷
    row E Flat Major (negsuc 2) ∷
    row B Flat Major (negsuc 1) ∷
    row F Natural Major (negsuc 0) ∷
    row C Natural Major (pos 0) ∷
    row G Natural Major (pos 1) ∷
    row D Natural Major (pos 2) ∷
    row A Natural Major (pos 3) ∷
    row E Natural Major (pos 4) ∷
    row B Natural Major (pos 5) ∷
    row F Sharp Major (pos 6) ∷
    row C Sharp Major (pos 7) ∷
    row F Flat Lydian (negsuc 6) ∷
    row C Flat Lydian (negsuc 5) ∷
    row G Flat Lydian (negsuc 4) ∷
    row D Flat Lydian (negsuc 3) ∷
    row A Flat Lydian (negsuc 2) ∷
    row E Flat Lydian (negsuc 1) ∷
    row B Flat Lydian (negsuc 0) ∷
    row F Natural Lydian (pos 0) ∷
    row C Natural Lydian (pos 1) ∷
    row G Natural Lydian (pos 2) ∷
    row D Natural Lydian (pos 3) ∷
    row A Natural Lydian (pos 4) ∷
    row E Natural Lydian (pos 5) ∷
    row B Natural Lydian (pos 6) ∷
    row F Sharp Lydian (pos 7) ∷
    row G Flat Mixolydian (negsuc 6) ∷
    row D Flat Mixolydian (negsuc 5) ∷
    row A Flat Mixolydian (negsuc 4) ∷
    row E Flat Mixolydian (negsuc 3) ∷
    row B Flat Mixolydian (negsuc 2) ∷
    row F Natural Mixolydian (negsuc 1) ∷
    row C Natural Mixolydian (negsuc 0) ∷
    row G Natural Mixolydian (pos 0) ∷
    row D Natural Mixolydian (pos 1) ∷
    row A Natural Mixolydian (pos 2) ∷
    row E Natural Mixolydian (pos 3) ∷
    row B Natural Mixolydian (pos 4) ∷
    row F Sharp Mixolydian (pos 5) ∷
    row C Sharp Mixolydian (pos 6) ∷
    row G Sharp Mixolydian (pos 7) ∷
    row D Flat Dorian (negsuc 6) ∷
    row A Flat Dorian (negsuc 5) ∷
    row E Flat Dorian (negsuc 4) ∷
    row B Flat Dorian (negsuc 3) ∷
    row F Natural Dorian (negsuc 2) ∷
    row C Natural Dorian (negsuc 1) ∷
    row G Natural Dorian (negsuc 0) ∷
    row D Natural Dorian (pos 0) ∷
    row A Natural Dorian (pos 1) ∷
    row E Natural Dorian (pos 2) ∷
    row B Natural Dorian (pos 3) ∷
    row F Sharp Dorian (pos 4) ∷
    row C Sharp Dorian (pos 5) ∷
    row G Sharp Dorian (pos 6) ∷
    row D Sharp Dorian (pos 7) ∷
    row A Flat Minor (negsuc 6) ∷
    row E Flat Minor (negsuc 5) ∷
    row B Flat Minor (negsuc 4) ∷
    row F Natural Minor (negsuc 3) ∷
    row C Natural Minor (negsuc 2) ∷
    row G Natural Minor (negsuc 1) ∷
    row D Natural Minor (negsuc 0) ∷
    row A Natural Minor (pos 0) ∷
    row E Natural Minor (pos 1) ∷
    row B Natural Minor (pos 2) ∷
    row F Sharp Minor (pos 3) ∷
    row C Sharp Minor (pos 4) ∷
    row G Sharp Minor (pos 5) ∷
    row D Sharp Minor (pos 6) ∷
    row A Sharp Minor (pos 7) ∷
    row E Flat Phrygian (negsuc 6) ∷
    row B Flat Phrygian (negsuc 5) ∷
    row F Natural Phrygian (negsuc 4) ∷
    row C Natural Phrygian (negsuc 3) ∷
    row G Natural Phrygian (negsuc 2) ∷
    row D Natural Phrygian (negsuc 1) ∷
    row A Natural Phrygian (negsuc 0) ∷
    row E Natural Phrygian (pos 0) ∷
    row B Natural Phrygian (pos 1) ∷
    row F Sharp Phrygian (pos 2) ∷
    row C Sharp Phrygian (pos 3) ∷
    row G Sharp Phrygian (pos 4) ∷
    row D Sharp Phrygian (pos 5) ∷
    row A Sharp Phrygian (pos 6) ∷
    row E Sharp Phrygian (pos 7) ∷
    row B Flat Locrian (negsuc 6) ∷
    row F Natural Locrian (negsuc 5) ∷
    row C Natural Locrian (negsuc 4) ∷
    row G Natural Locrian (negsuc 3) ∷
    row D Natural Locrian (negsuc 2) ∷
    row A Natural Locrian (negsuc 1) ∷
    row E Natural Locrian (negsuc 0) ∷
    row B Natural Locrian (pos 0) ∷
    row F Sharp Locrian (pos 1) ∷
    row C Sharp Locrian (pos 2) ∷
    row G Sharp Locrian (pos 3) ∷
    row D Sharp Locrian (pos 4) ∷
    row A Sharp Locrian (pos 5) ∷
    row E Sharp Locrian (pos 6) ∷
    row B Sharp Locrian (pos 7) ∷
    []

-- the count that stands beside the scale in a list of rows
abbrev count_in : List ScaleRow → Scale → Option ℤ
count_in [] scale = None
count_in (r ∷ rows) scale = cond (same_scale r.scale scale) (Some r.count) (count_in rows scale)

-- each of the 147 scales, those that stand in no row included
table_by_fifths : (tonic : Letter) (sign : Sign) (mode : Mode)
    → count_in table (record { tonic = tonic; sign = sign; mode = mode }) ≡ listed_count (record { tonic = tonic; sign = sign; mode = mode })
unfolding listed_count
table_by_fifths C Natural Major = refl
table_by_fifths C Sharp Major = refl
table_by_fifths C Flat Major = refl
table_by_fifths D Natural Major = refl
table_by_fifths D Sharp Major = refl
table_by_fifths D Flat Major = refl
table_by_fifths E Natural Major = refl
table_by_fifths E Sharp Major = refl
table_by_fifths E Flat Major = refl
table_by_fifths F Natural Major = refl
table_by_fifths F Sharp Major = refl
table_by_fifths F Flat Major = refl
table_by_fifths G Natural Major = refl
table_by_fifths G Sharp Major = refl
table_by_fifths G Flat Major = refl
table_by_fifths A Natural Major = refl
table_by_fifths A Sharp Major = refl
table_by_fifths A Flat Major = refl
table_by_fifths B Natural Major = refl
table_by_fifths B Sharp Major = refl
table_by_fifths B Flat Major = refl
table_by_fifths _ _ _ = refl
