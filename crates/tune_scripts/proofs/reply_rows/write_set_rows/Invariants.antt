use Rattle.std.proofs.Common.{◌≡◌, drop}
use Rattle.tune_scripts.specs.Replies.{set_rows_bytes}
use Rattle.tune_scripts.proofs.AppendLemmas.{Leaves}
use Rattle.tune_scripts.proofs.reply_rows.write_set_rows.Given as goal

abbrev pub invariant-loop-row : goal.invariant-loop-row
invariant-loop-row g l = record {
  bytes : Leaves (g.C.Console.output l.fn.console).bytes (g.C.Console.output l.console).bytes
      (set_rows_bytes (drop l.row-index l.rows)) (set_rows_bytes l.rows);
  input : g.C.Console.input l.console ≡ g.C.Console.input l.fn.console;
  faults : (g.C.Console.output l.console).faults ≡ (g.C.Console.output l.fn.console).faults;
}
