use Rattle.std.proofs.Common.{◌≡◌}
use Rattle.std.specs.List.{list_all}
use Rattle.abc_fields.specs.FileHeaders.{first_block, is_header_line}
use Rattle.abc_fields.specs.Inside.LinesLeft.{contents_of}
use Rattle.told_books.specs.Inside.Sums.{block_left}
use Rattle.told_books.proofs.fates.has_header.Given as goal

abbrev pub invariant-loop-line : goal.invariant-loop-line
invariant-loop-line l = list_all is_header_line (block_left l.begun (contents_of l.line-iterator))
    ≡ list_all is_header_line (first_block (contents_of l.fn.lines))
