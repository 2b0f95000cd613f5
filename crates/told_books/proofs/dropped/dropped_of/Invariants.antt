use Rattle.std.proofs.Common.{◌≡◌, ◌+◌, ◌++◌, map, drop}
use Rattle.abc_fields.specs.Inside.LinesLeft.{contents_of}
use Rattle.told_books.specs.FateLines.{dropped_row, dropped_from}
use Rattle.told_books.proofs.dropped.dropped_of.Given as goal

abbrev pub invariant-loop-i : goal.invariant-loop-i
invariant-loop-i l = map dropped_row l.dropped.items ++ dropped_from (l.i + 1) (drop l.i l.fates) (contents_of l.lines)
    ≡ dropped_from 1 l.fates (contents_of l.fn.lines)
