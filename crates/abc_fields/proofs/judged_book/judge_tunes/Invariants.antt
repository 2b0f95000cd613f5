use Rattle.std.proofs.Common.{◌+◌, ◌≤◌, length}
use Rattle.abc_fields.specs.Limits.{longest_book}
use Rattle.abc_fields.specs.Tunes.{joined, tune_runs}
use Rattle.abc_fields.specs.Books.{runs_answer}
use Rattle.abc_fields.specs.Inside.LinesLeft.{contents_of}
use Rattle.abc_fields.specs.Inside.HeaderRows.{runs_with}
use Rattle.abc_fields.proofs.BookLemmas.{IsJudged}
use Rattle.abc_fields.proofs.judged_book.judge_tunes.Given as goal

abbrev pub invariant-loop-line : goal.invariant-loop-line
invariant-loop-line l = record {
  judged : IsJudged l.longest l.header (runs_answer l.longest 1 (runs_with l.header (tune_runs (contents_of l.fn.lines)))) l.count (contents_of l.lines);
  room : l.count + length (joined (contents_of l.lines)) ≤ longest_book + 1;
}

abbrev pub decreases-loop-line : goal.decreases-loop-line
decreases-loop-line l = length l.lines
