use Rattle.std.proofs.Common.{◌≡◌, ℕ, ◌<◌, ◌||◌, length}
use Rattle.abc_fields.specs.Tunes.{tune_runs}
use Rattle.abc_fields.specs.Inside.LinesLeft.{contents_of}
use Rattle.abc_fields.specs.declared.carry_rules.CarryRule.TheVariants.{Always, Unless}
use Rattle.told_books.specs.Fates.{some_carries}
use Rattle.told_books.specs.Inside.LetterTables.{letter_in_table}
use Rattle.told_books.proofs.tune_letters.SomeCarry.of_lines.Given as goal

abbrev pub invariant-loop-line : goal.invariant-loop-line
invariant-loop-line l = record {
  always : (l.carry.always || some_carries (tune_runs (contents_of l.lines)) Always) ≡ some_carries (tune_runs (contents_of l.fn.lines)) Always;
  unless : (letter : ℕ) → letter < 256
      → (letter_in_table l.carry.unless letter || some_carries (tune_runs (contents_of l.lines)) (Unless letter))
      ≡ some_carries (tune_runs (contents_of l.fn.lines)) (Unless letter);
}

abbrev pub decreases-loop-line : goal.decreases-loop-line
decreases-loop-line l = length l.lines
