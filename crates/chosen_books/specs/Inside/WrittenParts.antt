-- Parts as far as they are written.
use Rattle.std.specs.Prelude.{◌≡◌, ◌≤◌, ℕ, ◌+◌, List, ◌++◌, length}
use Rattle.std.specs.List.{AllByRecursion}
use Rattle.tune_books.specs.WrittenBooks.{written_book}
use Rattle.chosen_books.specs.ChosenTunes.{GoIn}
use Rattle.chosen_books.specs.declared.part_writer.Part.{Part}

-- a part with more bytes is full
abbrev pub full_part : ℕ
full_part = 1000000

-- texts of at most so many bytes
abbrev pub TextsFit : ℕ → List (List ℕ) → Type 0
TextsFit longest texts = AllByRecursion (λ text. length text ≤ longest) texts

-- a number for each text, and no more bytes than are told
pub record IsBookPart (part : Part) : Type 0 where
  pub numbers : length part.numbers.items ≡ length part.texts.items
  pub bytes : length (written_book part.numbers.items part.texts.items) ≤ part.length
  pub few : part.length ≤ full_part + 64014

-- these texts are those of parts that go in, and then these
pub record IsClosed (longest : ℕ) (texts parts rest : List (List ℕ)) : Type 0 where
  pub done : List (List ℕ)
  pub go : GoIn longest parts done
  pub whole : done ++ rest ≡ texts
