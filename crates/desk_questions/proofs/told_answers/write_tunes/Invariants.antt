use Rattle.std.proofs.Common.{◌≡◌, false, take}
use Rattle.desk_questions.specs.Inside.QuestionCalls.{AreWritten}
use Rattle.tune_asking.proofs.CallLemmas.{Goes}
use Rattle.desk_questions.proofs.told_answers.write_tunes.Given as goal

abbrev pub invariant-loop-number : goal.invariant-loop-number
invariant-loop-number g l = record {
  goes : Goes g.S.TuneStore l.fn.store l.store;
  written : g.S.TuneStore.closed l.fn.store ≡ false → g.S.TuneStore.honest l.store
      → AreWritten (take l.number-index l.numbers) l.fn.bytes.items l.bytes.items (g.S.TuneStore.state l.fn.store);
}
