use Rattle.std.proofs.Common.{◌≡◌, ℕ, ◌+◌, ◌<◌, ◌^◌, List, length, ◌++◌}
use Rattle.abc_fields.specs.Inside.LinesLeft.{contents_of}
use Rattle.told_books.specs.Fates.{fates_from, tunes_begun, some_carries}
use Rattle.told_books.specs.Inside.LetterTables.{TellsCarried}
use Rattle.told_books.proofs.fates.fates_from.Given as goal

abbrev pub invariant-loop-line : goal.invariant-loop-line
invariant-loop-line l = record {
  fates : (runs : List (List (List ℕ))) → TellsCarried l.some runs
      → l.fates.items ++ fates_from (some_carries runs) l.stand (contents_of l.line-iterator)
      ≡ fates_from (some_carries runs) l.fn.first (contents_of l.fn.lines);
  room : tunes_begun l.stand + length (contents_of l.line-iterator) + 1 < 2 ^ 64;
}
