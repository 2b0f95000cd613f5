use Rattle.std.proofs.Common.{◌≡◌, drop, ◌+◌}
use Rattle.tune_scripts.specs.Replies.{places_bytes}
use Rattle.tune_scripts.proofs.AppendLemmas.{Leaves}
use Rattle.tune_scripts.proofs.reply_rows.write_places.Given as goal

abbrev pub invariant-loop-i : goal.invariant-loop-i
invariant-loop-i g l = record {
  bytes : Leaves (g.C.Console.output l.fn.console).bytes (g.C.Console.output l.console).bytes
      (places_bytes (l.i + 1) (drop l.i l.rows)) (places_bytes 1 l.rows);
  input : g.C.Console.input l.console ≡ g.C.Console.input l.fn.console;
  faults : (g.C.Console.output l.console).faults ≡ (g.C.Console.output l.fn.console).faults;
}
