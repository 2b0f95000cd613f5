use Rattle.std.proofs.Common.{◌≡◌, ◌++◌, ℕ, List, length}
use Rattle.abc_fields.specs.Tunes.{joined, tune_run}
use Rattle.abc_fields.specs.FileHeaders.{before_key}
use Rattle.abc_fields.specs.Inside.LinesLeft.{contents_of, IsRestAfter, still}
use Rattle.abc_fields.proofs.tune_lines.write_tune.Given as goal

abbrev pub invariant-loop-line : goal.invariant-loop-line
invariant-loop-line l = record {
  text : (carried : List (List ℕ)) → joined carried ≡ l.put
      → l.out.items ++ joined (still l.has_key carried (tune_run (contents_of l.lines)))
      ≡ l.fn.out.items ++ joined (before_key carried (tune_run (contents_of l.fn.lines)));
  rest : IsRestAfter (contents_of l.fn.lines) (contents_of l.lines);
}

abbrev pub decreases-loop-line : goal.decreases-loop-line
decreases-loop-line l = length l.lines
