use Rattle.std.proofs.Common.{◌≡◌}
use Rattle.abc_fields.specs.Inside.LinesLeft.{contents_of}
use Rattle.abc_fields.specs.Inside.HeaderEnds.{has_end}
use Rattle.abc_fields.proofs.stored.has_end.Given as goal

abbrev pub invariant-loop-line : goal.invariant-loop-line
invariant-loop-line l = has_end (contents_of l.line-iterator) ≡ has_end (contents_of l.fn.lines)
