use Rattle.std.proofs.Common.{◌≡◌, false, take}
use Rattle.desk_questions.specs.Inside.QuestionCalls.{AreFound}
use Rattle.tune_asking.proofs.CallLemmas.{Goes}
use Rattle.desk_questions.proofs.found_numbers.found.Given as goal

abbrev pub invariant-loop-condition : goal.invariant-loop-condition
invariant-loop-condition g l = record {
  goes : Goes g.S.TuneStore l.fn.store l.store;
  found : g.S.TuneStore.closed l.fn.store ≡ false → g.S.TuneStore.honest l.store
      → AreFound (take l.condition-index l.conditions) (g.S.Catalog.labels l.fn.store) (g.S.TuneStore.state l.fn.store) l.numbers.items;
}
