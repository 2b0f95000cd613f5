use Rattle.std.proofs.Common.{ℕ, List, length}
use Rattle.abc_fields.specs.Inside.LinesLeft.{contents_of, AreRead}
use Rattle.abc_fields.proofs.tune_lines.read_rest.Given as goal

abbrev pub invariant-loop-line : goal.invariant-loop-line
invariant-loop-line l = (gone : List (List ℕ)) × AreRead (contents_of l.fn.lines) gone (contents_of l.lines)

abbrev pub decreases-loop-line : goal.decreases-loop-line
decreases-loop-line l = length l.lines
