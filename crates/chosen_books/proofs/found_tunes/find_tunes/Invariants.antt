use Rattle.abc_fields.specs.FileHeaders.{file_header}
use Rattle.abc_fields.specs.Inside.LinesLeft.{contents_of}
use Rattle.told_books.specs.Fates.{book_lines}
use Rattle.told_books.specs.ToldTunes.{told_tunes_from}
use Rattle.chosen_books.proofs.FoundLaw.{IsFound}
use Rattle.chosen_books.proofs.found_tunes.find_tunes.Given as goal

abbrev pub invariant-loop-fate : goal.invariant-loop-fate
invariant-loop-fate l = record {
  next : (goal.iterator-loop-fate).can_next l.lines;
  ends : (goal.iterator-loop-fate).is_finite l.lines;
  found : IsFound l.carry l.longest l.book l.fate-index (contents_of l.lines) l.front l.found l.tunes l.carried
      (told_tunes_from l.longest (file_header (book_lines l.book)) 1 (book_lines l.book));
}
