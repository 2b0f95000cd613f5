use Rattle.std.proofs.Common.{◌≡◌, false, length}
use Rattle.std.specs.List.{AllByRecursion}
use Rattle.abc_fields.specs.Tunes.{has_key}
use Rattle.abc_fields.specs.Inside.LinesLeft.{contents_of}
use Rattle.abc_fields.specs.Inside.HeaderEnds.{key_place, has_end}
use Rattle.abc_fields.specs.Inside.ToldLines.{IsShortSpan}
use Rattle.abc_fields.proofs.ToldLemmas.{IsToldSoFar}
use Rattle.abc_fields.proofs.told_lines.find_told.Given as goal

-- the lines that are left are the rest of a header, and what stands behind it
abbrev pub invariant-loop-line : goal.invariant-loop-line
invariant-loop-line l = record {
  place : key_place l.in_part l.lines ≡ key_place false l.fn.lines;
  key : has_key (contents_of l.lines) ≡ has_key (contents_of l.fn.lines);
  ends : has_end (contents_of l.lines) ≡ has_end (contents_of l.fn.lines);
  near : AllByRecursion IsShortSpan l.lines;
  told : IsToldSoFar l.fn.lines l.lines l.places l.count;
}

abbrev pub decreases-loop-line : goal.decreases-loop-line
decreases-loop-line l = length l.lines
