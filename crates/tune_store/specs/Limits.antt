-- The limits of an archive (this archive's profile).
use Rattle.std.specs.Prelude.{ℕ}
use Rattle.tune_store.specs.declared.layout.Layout.{Layout}
use Rattle.tune_store.specs.declared.layout.Layout.TheVariants.{One, Two}

-- how many bytes the text of a tune has at most
abbrev pub longest_text : Layout → ℕ
longest_text One = 16000
longest_text Two = 64000

-- how many tunes an archive has at most
abbrev pub most_tunes : Layout → ℕ
most_tunes One = 20000
most_tunes Two = 50000

-- by how many notes tunes are told apart
abbrev pub notes_of : Layout → ℕ
notes_of One = 8
notes_of Two = 12

-- the number by which a file names a layout
abbrev pub layout_number : Layout → ℕ
layout_number One = 1
layout_number Two = 2

-- the greatest number of a tune
abbrev pub greatest_number : ℕ
greatest_number = 999999

-- the greatest revision of a tune
abbrev pub greatest_revision : ℕ
greatest_revision = 9999
