use Rattle.std.proofs.Common.{◌≡◌, ◌<◌, length}
use Rattle.tune_scripts.specs.Looks.{LooksBehind}
use Rattle.tune_scripts.specs.Streams.{streams_in}
use Rattle.tune_scripts.proofs.ReadLemmas.{IsTaken}
use Rattle.tune_scripts.proofs.script_reading.read_book.Given as goal

abbrev pub invariant-loop-left : goal.invariant-loop-left
invariant-loop-left g l = record {
  taken : IsTaken (g.C.Console.input l.fn.console).left (g.C.Console.input l.console).left l.len l.left l.is_wanted l.has_room l.book.items;
  output : g.C.Console.output l.console ≡ g.C.Console.output l.fn.console;
  faults : (g.C.Console.input l.console).faults ≡ (g.C.Console.input l.fn.console).faults;
  looks : LooksBehind (streams_in g.C.Console l.fn.console l.console) (λ taken. length taken < l.len);
}

abbrev pub decreases-loop-left : goal.decreases-loop-left
decreases-loop-left g l = l.left
