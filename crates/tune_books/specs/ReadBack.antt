-- That a written book gives back the texts that were handed in.
use Rattle.std.specs.Prelude.{◌≡◌, ◌≢◌, ℕ, ◌≤◌, List, [], length, Ok}
use Rattle.std.specs.List.{AllByRecursion}
use Rattle.abc_fields.specs.Limits.{longest_book}
use Rattle.abc_fields.specs.Books.{tune_texts, book_answer}

-- the tunes of the book are these texts, in order; and where there is one, the book is not too long
-- and a reader's limit allows each, it reads them
pub record GivesBack (book : List ℕ) (texts : List (List ℕ)) : Type 0 where
  pub tunes : tune_texts book ≡ texts
  pub read : (longest : ℕ) → texts ≢ [] → length book ≤ longest_book
      → AllByRecursion (λ text. length text ≤ longest) texts → book_answer longest book ≡ Ok texts
