use Rattle.std.proofs.Common.{◌≡◌, ◌++◌, drop}
use Rattle.abc_fields.specs.Tunes.{joined}
use Rattle.abc_fields.specs.Inside.HeaderRows.{in_table, taken_lines, row_list}
use Rattle.abc_fields.proofs.file_header.FileHeader.write_for.Given as goal

abbrev pub invariant-loop-line : goal.invariant-loop-line
invariant-loop-line l = l.out.items ++ joined (taken_lines (in_table l.letters.table) (row_list (drop l.line-index l.line-items)))
    ≡ l.fn.out.items ++ joined (taken_lines (in_table l.letters.table) (row_list l.line-items))
