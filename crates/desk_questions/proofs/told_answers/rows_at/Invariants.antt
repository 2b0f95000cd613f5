use Rattle.std.proofs.Common.{◌≡◌, false, take}
use Rattle.desk_questions.specs.Inside.QuestionCalls.{AreRowsAt}
use Rattle.tune_asking.proofs.CallLemmas.{Goes}
use Rattle.desk_questions.proofs.told_answers.rows_at.Given as goal

abbrev pub invariant-loop-number : goal.invariant-loop-number
invariant-loop-number g l = record {
  goes : Goes g.S.TuneStore l.fn.store l.store;
  rows : g.S.TuneStore.closed l.fn.store ≡ false → g.S.TuneStore.honest l.store
      → AreRowsAt (take l.number-index l.numbers) (g.S.TuneStore.state l.fn.store) l.rows.items;
}
