use Rattle.std.proofs.Common.{◌+◌, ◌∙◌, map, drop, ap}
use Rattle.abc_fields.specs.Inside.LinesLeft.{contents_of}
use Rattle.told_books.specs.FateLines.{dropped_row}
use Rattle.told_books.proofs.FateLemmas.{dropped_end}
use Rattle.told_books.proofs.dropped.dropped_of.Goals as goal

pub returns-in_default : goal.returns-in_default
returns-in_default c =
    dropped_end (map dropped_row c.loop-i.dropped.items) (c.loop-i.i + 1) (drop c.loop-i.i c.args.fates.now) (contents_of c.loop-i.lines)
    (ap contents_of c.in_default.ensures.steps.0)
    ∙ c.loop-i.invariant
