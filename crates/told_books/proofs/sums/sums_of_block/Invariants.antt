use Rattle.std.proofs.Common.{◌≡◌, ℕ, ◌+◌, ◌<◌, ◌^◌, length, Bool}
use Rattle.abc_fields.specs.Tunes.{joined}
use Rattle.abc_fields.specs.FileHeaders.{carried, first_block}
use Rattle.abc_fields.specs.Inside.LinesLeft.{contents_of}
use Rattle.abc_fields.specs.declared.carry_rules.CarryRule.TheVariants.{Never}
use Rattle.told_books.specs.Inside.Sums.{sum_carried_by, sum_of_rules, block_left}
use Rattle.told_books.proofs.sums.sums_of_block.Given as goal

abbrev pub invariant-loop-line : goal.invariant-loop-line
invariant-loop-line l = record {
  each : (owns : ℕ → Bool)
      → sum_carried_by owns l.sums.items + length (joined (carried owns l.above (block_left l.begun (contents_of l.line-iterator))))
      ≡ length (joined (carried owns Never (first_block (contents_of l.fn.lines))));
  room : sum_of_rules l.sums.items + length (joined (contents_of l.line-iterator)) < 2 ^ 64;
}
