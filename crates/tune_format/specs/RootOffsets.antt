-- How an archive is laid out on its pages: offsets and sizes in bytes. The code's constants are
-- tied to these by the clauses of the functions that use them.
use Rattle.std.specs.Prelude.{ℕ}
use Rattle.tune_store.specs.declared.layout.Layout.{Layout}
use Rattle.tune_store.specs.declared.layout.Layout.TheVariants.{One, Two}

-- the root begins with the number of the layout
abbrev pub version_offset : ℕ
version_offset = 0

-- behind it the first pages of the lists of the indexes
abbrev pub numbers_offset : ℕ
numbers_offset = 4

abbrev pub titles_offset : ℕ
titles_offset = 8

abbrev pub rhythms_offset : ℕ
rhythms_offset = 12

abbrev pub scales_offset : ℕ
scales_offset = 16

abbrev pub incipits_offset : ℕ
incipits_offset = 20

-- and the first page of the set lists
abbrev pub sets_offset : ℕ
sets_offset = 24

-- a version, a number of a tune and a number of a page have four bytes each
abbrev pub number_bytes : ℕ
number_bytes = 4

-- what stands behind the number of a tune in its key: zeros
abbrev pub zeros_of_key : ℕ
zeros_of_key = 28

-- the revision of a tune, which stands before its text
abbrev pub revision_bytes : ℕ
revision_bytes = 2

-- how many pages an archive has at most
abbrev pub most_pages_of : Layout → ℕ
most_pages_of One = 1000000
most_pages_of Two = 4000000
