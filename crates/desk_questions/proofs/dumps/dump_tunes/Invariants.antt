use Rattle.std.proofs.Common.{◌≡◌, false, take}
use Rattle.tune_asking.proofs.CallLemmas.{Goes}
use Rattle.desk_questions.proofs.DumpLemmas.{IsBegun}
use Rattle.desk_questions.proofs.dumps.dump_tunes.Given as goal

abbrev pub invariant-loop-number : goal.invariant-loop-number
invariant-loop-number g l = record {
  goes : Goes g.S.TuneStore l.fn.store l.store;
  begun : g.S.TuneStore.closed l.fn.store ≡ false → g.S.TuneStore.honest l.store
      → IsBegun (take l.number-index l.numbers) l.last l.piece.items l.fn.script.items l.script.items (g.S.TuneStore.state l.fn.store);
}
