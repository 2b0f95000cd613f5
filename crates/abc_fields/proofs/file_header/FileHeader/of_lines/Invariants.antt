use Rattle.std.proofs.Common.{◌≡◌, ◌+◌, ◌≤◌, length, [], false}
use Rattle.abc_fields.specs.Limits.{longest_book}
use Rattle.abc_fields.specs.Tunes.{joined}
use Rattle.abc_fields.specs.Inside.LinesLeft.{contents_of}
use Rattle.abc_fields.specs.Inside.HeaderRows.{row_list, open_rows, header_rows, AreSums, sum_all, IsByteRule}
use Rattle.abc_fields.specs.declared.carry_rules.CarryRule.TheVariants.{Never}
use Rattle.abc_fields.proofs.file_header.FileHeader.of_lines.Given as goal

abbrev pub invariant-loop-line : goal.invariant-loop-line
invariant-loop-line l = record {
  rows : open_rows l.begun (row_list l.found.items) l.above (contents_of l.line-iterator) ≡ header_rows (contents_of l.fn.lines);
  none : l.begun ≡ false → (l.found.items ≡ []) × (l.above ≡ Never);
  byte : IsByteRule l.above;
  sums : AreSums (row_list l.found.items) l.sums.items;
  room : sum_all l.sums.items + length (joined (contents_of l.line-iterator)) ≤ longest_book + 1;
}
