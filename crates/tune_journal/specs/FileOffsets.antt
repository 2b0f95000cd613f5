-- Where things stand in this archive's file, and how large they are: offsets and sizes in bytes.
-- The code's constants are tied to these by the clauses of the functions that use them.
use Rattle.std.specs.Prelude.{ℕ, List, [], ◌∷◌}

-- a block, and a page
abbrev pub block_bytes : ℕ
block_bytes = 4096

-- a file begins with the magic
abbrev pub magic_offset : ℕ
magic_offset = 0

abbrev pub magic_bytes : ℕ
magic_bytes = 8

-- "ABCTUNE1"
abbrev pub magic : List ℕ
magic = 65 ∷ 66 ∷ 67 ∷ 84 ∷ 85 ∷ 78 ∷ 69 ∷ 49 ∷ []

-- the gate is one byte
abbrev pub gate_offset : ℕ
gate_offset = 4096

-- the one value that opens it; every other value is closed
abbrev pub gate_open : ℕ
gate_open = 167

-- and the value that it is closed with
abbrev pub gate_closed : ℕ
gate_closed = 0

-- the descriptor of the log: the page count that it leads to, and the number of its entries
abbrev pub descriptor_offset : ℕ
descriptor_offset = 8192

abbrev pub entry_count_offset : ℕ
entry_count_offset = 8196

abbrev pub descriptor_bytes : ℕ
descriptor_bytes = 8

-- the page count
abbrev pub count_offset : ℕ
count_offset = 12288

-- page 0; the log stands behind the last page
abbrev pub pages_offset : ℕ
pages_offset = 16384

-- an entry of the log: the number of a page, and its image
abbrev pub log_entry_bytes : ℕ
log_entry_bytes = 4100

-- the length of a file with one page
abbrev pub least_length : ℕ
least_length = 20480

-- the most pages that a file has
abbrev pub most_pages : ℕ
most_pages = 4000000
