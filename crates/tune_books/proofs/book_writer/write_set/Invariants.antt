-- The tunes that are left, after what is written, make up the set.
use Rattle.std.proofs.Common.{◌≡◌, ◌+◌, ◌++◌, drop, take}
use Rattle.std.specs.List.{AllByRecursion}
use Rattle.abc_fields.specs.Tunes.{IsTuneText}
use Rattle.tune_books.specs.WrittenBooks.{written_tunes, places_from, written_set}
use Rattle.tune_books.proofs.book_writer.write_set.Given as goal

abbrev pub invariant-loop-i : goal.invariant-loop-i
invariant-loop-i l = record {
  written : l.writer ++ written_tunes (places_from (l.i + 1) (drop l.i l.texts)) (drop l.i l.texts) ≡ written_set l.name l.texts;
  each : AllByRecursion IsTuneText (take l.i l.texts);
}
