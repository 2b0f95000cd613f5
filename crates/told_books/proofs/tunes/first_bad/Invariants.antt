use Rattle.std.proofs.Common.{◌≡◌, ◌+◌, drop}
use Rattle.told_books.specs.ToldTunes.{first_bad}
use Rattle.told_books.proofs.tunes.first_bad.Given as goal

abbrev pub invariant-loop-i : goal.invariant-loop-i
invariant-loop-i l = first_bad (l.i + 1) (drop l.i l.tunes) ≡ first_bad 1 l.tunes
