-- The tunes that are left, after what is written, make up the book.
use Rattle.std.proofs.Common.{◌≡◌, ◌++◌, drop, take}
use Rattle.std.specs.List.{AllByRecursion}
use Rattle.abc_fields.specs.Tunes.{IsTuneText}
use Rattle.tune_books.specs.WrittenBooks.{written_tunes, written_book}
use Rattle.tune_books.proofs.book_writer.write_book.Given as goal

abbrev pub invariant-loop-i : goal.invariant-loop-i
invariant-loop-i l = record {
  written : l.writer ++ written_tunes (drop l.i l.numbers) (drop l.i l.texts) ≡ written_book l.numbers l.texts;
  each : AllByRecursion IsTuneText (take l.i l.texts);
}
