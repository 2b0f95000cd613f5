use Rattle.std.proofs.Common.{◌≡◌, ◌+◌, ◌≤◌, ◌||◌, length}
use Rattle.abc_fields.specs.Limits.{longest_book}
use Rattle.abc_fields.specs.Tunes.{joined, tune_run, has_key}
use Rattle.abc_fields.specs.Inside.LinesLeft.{contents_of, IsRestAfter}
use Rattle.abc_fields.proofs.tune_lines.measure.Given as goal

abbrev pub invariant-loop-line : goal.invariant-loop-line
invariant-loop-line l = record {
  bytes : l.length + length (joined (tune_run (contents_of l.left))) ≡ length (joined (tune_run (contents_of l.fn.lines)));
  key : (l.has_key || has_key (tune_run (contents_of l.left))) ≡ has_key (tune_run (contents_of l.fn.lines));
  rest : IsRestAfter (contents_of l.fn.lines) (contents_of l.left);
  room : l.length + length (joined (contents_of l.left)) ≤ longest_book + 1;
}

abbrev pub decreases-loop-line : goal.decreases-loop-line
decreases-loop-line l = length l.left
