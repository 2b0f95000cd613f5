-- What a written book is, byte for byte: a line that says which abc this is, and the tunes, each
-- after an empty line (ABC 2.1, 2.1 and 2.2).
use Rattle.std.specs.Prelude.{ℕ, ◌+◌, List, [], ◌∷◌, ◌++◌, codes, decimal}

-- the line by which a reader knows the file (ABC 2.1, 2.1)
abbrev pub book_header : List ℕ
book_header = codes "%abc-2.1\n"

-- a tune: its `X:` line, whose number is in decimal, without leading zeros, and its text
abbrev pub written_tune : ℕ → List ℕ → List ℕ
written_tune number text = codes "X:" ++ decimal number ++ codes "\n" ++ text

-- the tunes of these numbers and texts, in order, each after an empty line; what one list has
-- beyond the end of the other is not written
abbrev pub written_tunes : List ℕ → List (List ℕ) → List ℕ
written_tunes [] texts = []
written_tunes (number ∷ numbers) [] = []
written_tunes (number ∷ numbers) (text ∷ texts) =
    (codes "\n" ++ written_tune number text) ++ written_tunes numbers texts

-- a book: its first line, and its tunes
abbrev pub written_book : List ℕ → List (List ℕ) → List ℕ
written_book numbers texts = book_header ++ written_tunes numbers texts

-- SETS
-- the numbers from this one on, as many as there are texts
abbrev pub places_from : ℕ → List (List ℕ) → List ℕ
places_from place [] = []
places_from place (text ∷ texts) = place ∷ places_from (place + 1) texts

-- the first lines of a set: that of a book, and a comment that names the set
abbrev pub set_header : List ℕ → List ℕ
set_header name = book_header ++ (codes "% set " ++ (name ++ codes "\n"))

-- a set: its first lines, and its tunes, numbered by their places from 1
abbrev pub written_set : List ℕ → List (List ℕ) → List ℕ
written_set name texts = set_header name ++ written_tunes (places_from 1 texts) texts
