use Rattle.std.proofs.Common.{◌≡◌, ◌+◌, ◌<◌, ◌^◌, ◌++◌, ℕ, List, length}
use Rattle.abc_fields.specs.Inside.LinesLeft.{contents_of}
use Rattle.told_books.specs.ToldTunes.{told_tunes_from}
use Rattle.told_books.specs.Inside.Sums.{AreHeaderSums}
use Rattle.told_books.proofs.tunes.tunes_of.Given as goal

abbrev pub invariant-loop-line : goal.invariant-loop-line
invariant-loop-line l = record {
  tunes : (header : List (List ℕ)) → AreHeaderSums l.sums header
      → l.tunes.items ++ told_tunes_from l.longest header (l.number + 1) (contents_of l.lines) ≡ told_tunes_from l.longest header 1 (contents_of l.fn.lines);
  room : l.number + length (contents_of l.lines) + 1 < 2 ^ 64;
}

abbrev pub decreases-loop-line : goal.decreases-loop-line
decreases-loop-line l = length l.lines
