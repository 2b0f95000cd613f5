use Rattle.std.proofs.Common.{arith}
use Rattle.tune_undo.proofs.LineLaws.{number_line_short}
use Rattle.tune_undo.proofs.old_items.text_len.Goals as goal

pub overflow_sub-line_len : goal.overflow_sub-line_len
overflow_sub-line_len c = omega (arith, number_line_short c.args.bytes.now _ c.in_ok-rest.ensures)
