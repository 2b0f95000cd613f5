use Rattle.abc_fields.specs.Inside.LinesLeft.{contents_of}
use Rattle.chosen_books.proofs.HeaderLaw.{IsTaken}
use Rattle.chosen_books.proofs.found_tunes.header_bytes.Given as goal

abbrev pub invariant-loop-line : goal.invariant-loop-line
invariant-loop-line l = IsTaken l.begun l.bytes.items (contents_of l.line-iterator) (contents_of l.fn.lines)
