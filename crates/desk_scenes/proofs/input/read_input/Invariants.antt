use Rattle.std.proofs.Common.{◌≡◌}
use Rattle.std.specs.Io.KnownBytes.{Consumes}
use Rattle.desk_scenes.proofs.input.read_input.Given as goal

-- what was taken so far, and that nothing was written
abbrev pub invariant-loop : goal.invariant-loop
invariant-loop g l = record {
  took : Consumes (g.C.Console.input l.fn.console).left (g.C.Console.input l.console).left l.bytes.items;
  output : g.C.Console.output l.console ≡ g.C.Console.output l.fn.console;
}
