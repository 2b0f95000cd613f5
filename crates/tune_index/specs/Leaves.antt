-- Leaves: what the bytes of a page stand for (own profile).
use Rattle.std.specs.Prelude.{ℕ, zero, suc, ◌+◌, ◌/◌, ◌≤◌, List, [], ◌∷◌, ◌++◌, drop}
use Rattle.std.specs.Prelude.{slice_index_or}
use Rattle.byteorder.specs.Endian.{big_number, big_bytes}
use Rattle.index_keys.specs.Entries.{Entry}

-- how many entries a leaf has at most: what goes into the 4,094 bytes after the count
unfoldable pub capacity : ℕ → ℕ
capacity width = 4094 / (width + 4)

-- the number in the first four bytes, the highest first, and the bytes of such a number
unfoldable pub value_in : List ℕ → ℕ
value_in bytes = big_number 4 bytes

unfoldable pub value_bytes : ℕ → List ℕ
value_bytes value = big_bytes 4 value

-- how many entries a page says that it has, and the bytes that say so
unfoldable pub count_in : List ℕ → ℕ
count_in image = big_number 2 image

unfoldable pub count_bytes : ℕ → List ℕ
count_bytes count = big_bytes 2 count

-- the entry that bytes begin with: a key, then a value
abbrev pub entry_in : ℕ → List ℕ → Entry
entry_in width bytes = (big_number width bytes, value_in (drop width bytes))

-- the first n entries in bytes
abbrev pub entries_in : ℕ → ℕ → List ℕ → List Entry
entries_in width zero bytes = []
entries_in width (suc n) bytes =
    entry_in width bytes ∷ entries_in width n (drop (width + 4) bytes)

-- the entries in a page: a count of two bytes, then the entries
unfoldable pub leaf_in : ℕ → List ℕ → List Entry
leaf_in width image = entries_in width (count_in image) (drop 2 image)

-- a page has the form of a leaf: it has an entry, and no more than go into a page
pub record IsLeaf (width : ℕ) (image : List ℕ) : Type 0 where
  pub some : 1 ≤ count_in image
  pub within : count_in image ≤ capacity width

-- the bytes of an entry
abbrev pub leaf_entry_bytes : ℕ → Entry → List ℕ
leaf_entry_bytes width e = big_bytes width e.0 ++ value_bytes e.1

-- the entry at a place, where there is one
abbrev pub slice_entry : List Entry → ℕ → Entry
slice_entry es i = slice_index_or es i (0, 0)
