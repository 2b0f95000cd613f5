use Rattle.std.proofs.Common.{length}
use Rattle.abc_fields.specs.Tunes.{tune_run}
use Rattle.abc_fields.specs.Inside.LinesLeft.{contents_of}
use Rattle.abc_fields.specs.Inside.ToldLines.{spans_at}
use Rattle.abc_fields.proofs.ToldLemmas.{IsToldSoFar}
use Rattle.abc_fields.proofs.TuneParts.{IsHeaderOpen}
use Rattle.abc_fields.proofs.tune_lines.read_to_key.Given as goal

abbrev pub invariant-loop-line : goal.invariant-loop-line
invariant-loop-line l = record {
  header : IsHeaderOpen (contents_of l.fn.lines) (contents_of l.lines) (record { from = l.from; in_part = l.in_part });
  told : IsToldSoFar (spans_at 0 (tune_run (contents_of l.fn.lines))) (spans_at l.from (tune_run (contents_of l.lines))) l.places l.count;
}

abbrev pub decreases-loop-line : goal.decreases-loop-line
decreases-loop-line l = length l.lines
