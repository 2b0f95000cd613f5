use Rattle.std.proofs.Common.{◌≡◌, ◌++◌, false}
use Rattle.tune_sets.specs.Calls.{set_rows_of}
use Rattle.desk_questions.specs.Dumps.{script_bytes}
use Rattle.tune_asking.proofs.CallLemmas.{Goes}
use Rattle.desk_questions.proofs.DumpLemmas.{some_sets}
use Rattle.desk_questions.proofs.dumps.dump_each.Given as goal

abbrev pub invariant-loop-set : goal.invariant-loop-set
invariant-loop-set g l = record {
  goes : Goes g.S.TuneStore l.fn.store l.store;
  written : g.S.TuneStore.closed l.fn.store ≡ false → g.S.TuneStore.honest l.store → l.sets ≡ set_rows_of (g.S.TuneStore.state l.fn.store).sets
      → l.script.items ≡ l.fn.script.items ++ script_bytes (some_sets l.set-index (g.S.TuneStore.state l.fn.store).sets);
}
