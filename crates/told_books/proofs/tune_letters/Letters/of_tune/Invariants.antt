use Rattle.std.proofs.Common.{◌≡◌, ℕ, ◌<◌, ◌||◌}
use Rattle.abc_fields.specs.Fields.{header_of}
use Rattle.abc_fields.specs.Tunes.{tune_run}
use Rattle.abc_fields.specs.FileHeaders.{has_letter}
use Rattle.abc_fields.specs.Inside.LinesLeft.{contents_of}
use Rattle.told_books.specs.Inside.LetterTables.{letter_in_table}
use Rattle.told_books.proofs.tune_letters.Letters.of_tune.Given as goal

abbrev pub invariant-loop-line : goal.invariant-loop-line
invariant-loop-line l = (letter : ℕ) → letter < 256
    → (letter_in_table l.letters.table letter || has_letter (header_of (tune_run (contents_of l.line-iterator))) letter)
    ≡ has_letter (header_of (tune_run (contents_of l.fn.lines))) letter
