-- How long a book and the text of a tune may be, and how many titles of a tune count (this
-- archive's profile).
use Rattle.std.specs.Prelude.{ℕ}

-- the bytes of a book, at most
abbrev pub longest_book : ℕ
longest_book = 4000000

-- the bytes of the text of a tune, at most, whatever lesser limit a reader sets
abbrev pub longest_tune : ℕ
longest_tune = 64000

-- the titles of a tune that count, from the first on
abbrev pub most_titles : ℕ
most_titles = 8
