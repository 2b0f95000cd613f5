use Rattle.std.proofs.Common.{◌≡◌, ◌+◌, ◌-◌, ◌≤◌, take, true}
use Rattle.std.specs.List.{list_all}
use Rattle.std.specs.Io.KnownBytes.{Consumes}
use Rattle.tune_scripts.specs.Limits.{longest_line}
use Rattle.tune_scripts.specs.Consoles.{is_inside}
use Rattle.tune_scripts.specs.Looks.{LooksBehind}
use Rattle.tune_scripts.specs.Streams.{streams_in}
use Rattle.tune_scripts.proofs.script_reading.read_line.Given as goal

abbrev pub invariant-loop-len : goal.invariant-loop-len
invariant-loop-len g l = record {
  within : l.len ≤ longest_line + 1;
  taken : Consumes (g.C.Console.input l.fn.console).left (g.C.Console.input l.console).left (take l.len l.line);
  inside : list_all is_inside (take l.len l.line) ≡ true;
  output : g.C.Console.output l.console ≡ g.C.Console.output l.fn.console;
  faults : (g.C.Console.input l.console).faults ≡ (g.C.Console.input l.fn.console).faults;
  looks : LooksBehind (streams_in g.C.Console l.fn.console l.console) (λ taken. list_all is_inside taken ≡ true);
}

abbrev pub decreases-loop-len : goal.decreases-loop-len
decreases-loop-len g l = longest_line + 1 - l.len
