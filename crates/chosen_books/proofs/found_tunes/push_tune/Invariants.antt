use Rattle.std.proofs.Common.{◌≡◌, ◌++◌}
use Rattle.std.specs.Prelude.{codes}
use Rattle.abc_fields.specs.Inside.LinesLeft.{contents_of}
use Rattle.abc_fields.specs.Tunes.{joined, tune_run}
use Rattle.chosen_books.proofs.found_tunes.push_tune.Given as goal

abbrev pub invariant-loop-line : goal.invariant-loop-line
invariant-loop-line l = l.out.items ++ joined (tune_run (contents_of l.line-iterator))
    ≡ l.fn.out.items ++ (codes "\nX:\n" ++ joined (tune_run (contents_of l.fn.lines)))
