-- What is taken in of a book, as one fact.
use Rattle.std.specs.Prelude.{◌≡◌, ℕ, ◌+◌, List, length, count_by, None, vec_len}
use Rattle.abc_fields.specs.Books.{book_runs}
use Rattle.desk_terms.specs.declared.adding.Adding.{Adding}
use Rattle.chosen_books.specs.BookTunes.{book_tunes}
use Rattle.chosen_books.specs.ChosenTunes.{GoIn, bad_tunes, carries_some, chosen_tunes}
use Rattle.chosen_books.specs.ChosenTunes.{most_carried, refusal, texts_of}
use Rattle.chosen_books.specs.declared.choices.Chosen.{Chosen}

-- this is taken in of the book, and no more
pub record IsChosen (longest : ℕ) (how : Adding) (sums : List (List ℕ)) (book : List ℕ)
    (chosen : Chosen) : Type 0 where
  pub parts : GoIn longest chosen.parts.items (texts_of (chosen_tunes how longest sums book))
  pub tunes : chosen.tunes ≡ length (chosen_tunes how longest sums book)
  pub bad : chosen.bad.items ≡ bad_tunes longest (book_tunes how.carry book)
  pub none_lost : chosen.tunes + vec_len chosen.bad + chosen.known ≡ length (book_runs book)
  pub lines : chosen.carried.lines ≡ most_carried (chosen_tunes how longest sums book)
  pub carrying : chosen.carried.tunes ≡ count_by carries_some (chosen_tunes how longest sums book)
  pub taken : refusal how longest book ≡ None
