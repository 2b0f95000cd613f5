use Rattle.std.proofs.Common.{◌≡◌, ◌+◌, ℕ, true, None}
use Rattle.tune_store.specs.Stores.{standing_of}
use Rattle.tune_scripts.specs.Looks.{TellsFaults, LooksFlushed, LooksPromptly}
use Rattle.tune_scripts.specs.Streams.{streams_in}
use Rattle.tune_scripts.proofs.RunLemmas.{IsSoFar}
use Rattle.tune_scripts.proofs.script_runs.run.Given as goal

abbrev pub invariant-loop-lines : goal.invariant-loop-lines
invariant-loop-lines g l = record {
  idle : g.S.TuneStore.closed l.fn.store ≡ true → l.store ≡ l.fn.store;
  so_far : g.S.TuneStore.honest l.store → (n : ℕ) → IsSoFar g.S.TuneStore (l.lines + n) n
      (g.C.Console.input l.fn.console).left (g.C.Console.input l.console).left (g.C.Console.output l.fn.console).bytes (g.C.Console.output l.console).bytes
      l.fn.store l.store;
  faults : TellsFaults (streams_in g.C.Console l.fn.console l.console) None;
  looks : (g.C.Console.output l.fn.console).flushed ≡ true → LooksFlushed (streams_in g.C.Console l.fn.console l.console);
  prompt : g.S.TuneStore.honest l.store → (g.C.Console.output l.fn.console).flushed ≡ true
      → LooksPromptly (standing_of g.S.TuneStore l.fn.store) (streams_in g.C.Console l.fn.console l.console);
}
