-- What a book is read as: the texts of its tunes, or why it is refused.
use Rattle.std.specs.Prelude.{ℕ, ◌+◌, List, [], ◌∷◌, ◌++◌, length, map, drop, Bool, not, nat_lt}
use Rattle.std.specs.Prelude.{if◌then◌else◌, Result, Ok, Err}
use Rattle.abc_fields.specs.Bytes.{byte_order_mark, begins_with}
use Rattle.abc_fields.specs.Lines.{lines_of}
use Rattle.abc_fields.specs.Tunes.{tune_runs, has_key, joined}
use Rattle.abc_fields.specs.FileHeaders.{file_header, with_header}
use Rattle.abc_fields.specs.Limits.{longest_book}
use Rattle.abc_fields.specs.declared.book.BookFault.{BookFault}
use Rattle.abc_fields.specs.declared.book.BookFault.TheVariants.{BookTooLong, NoTune, BadTune}
use Rattle.abc_fields.specs.declared.book.TuneFault.TheVariants.{NoKey, TooLong}

-- the texts of tunes, or a refusal
abbrev pub Texts : Type 0
Texts = Result (List (List ℕ)) BookFault

-- THE TUNES
-- a book without the byte order mark at its front
abbrev pub without_mark : List ℕ → List ℕ
without_mark book =
    if begins_with book byte_order_mark then drop (length byte_order_mark) book else book

-- for each tune of these lines, its lines with those that it carries of their file header
abbrev pub whole_runs : List (List ℕ) → List (List (List ℕ))
whole_runs lines = map (with_header (file_header lines)) (tune_runs lines)

-- the same for a book
abbrev pub book_runs : List ℕ → List (List (List ℕ))
book_runs book = whole_runs (lines_of (without_mark book))

-- the texts of the tunes of a book, limits aside
abbrev pub tune_texts : List ℕ → List (List ℕ)
tune_texts book = map joined (book_runs book)

-- TUNES IN THE ORDER OF THE BOOK
-- these texts stand before those of an answer
abbrev pub before_texts : List (List ℕ) → Texts → Texts
before_texts texts (Ok later) = Ok (texts ++ later)
before_texts texts (Err fault) = Err fault

-- a tune of this place, counted from 1, and then the answer to the later ones: the key is looked
-- for before the length
abbrev pub tune_answer : ℕ → ℕ → Bool → List ℕ → Texts → Texts
tune_answer longest place keyed text later =
    if not keyed then Err (BadTune place NoKey)
    else if nat_lt longest (length text) then Err (BadTune place TooLong)
    else before_texts (text ∷ []) later

-- the texts of tunes of these lines, or the first bad tune; the first tune has this place
abbrev pub runs_answer : ℕ → ℕ → List (List (List ℕ)) → Texts
runs_answer longest place [] = Ok []
runs_answer longest place (run ∷ runs) =
    tune_answer longest place (has_key run) (joined run) (runs_answer longest (place + 1) runs)

-- a book without a tune is refused
abbrev pub book_of_runs : ℕ → List (List (List ℕ)) → Texts
book_of_runs longest [] = Err NoTune
book_of_runs longest (run ∷ runs) = runs_answer longest 1 (run ∷ runs)

-- the answer to a book, where a text may have this many bytes
abbrev pub book_answer : ℕ → List ℕ → Texts
book_answer longest book =
    if nat_lt longest_book (length book) then Err BookTooLong
    else book_of_runs longest (book_runs book)
