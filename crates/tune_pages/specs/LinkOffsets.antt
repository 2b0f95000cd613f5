-- How a page of a chain is laid out: offsets and sizes in bytes. The code's constants are tied to
-- these by the clauses of the functions that use them.
use Rattle.std.specs.Prelude.{ℕ}

-- the number of the next page; it stands first
abbrev pub next_bytes : ℕ
next_bytes = 4

-- behind it how many of the bytes count
abbrev pub used_bytes : ℕ
used_bytes = 2

-- the bytes that count stand behind both
abbrev pub piece_offset : ℕ
piece_offset = 6

-- and the most of them
abbrev pub piece_room : ℕ
piece_room = 4090
