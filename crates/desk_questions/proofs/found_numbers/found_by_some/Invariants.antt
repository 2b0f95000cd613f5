use Rattle.std.proofs.Common.{◌≡◌, ◌++◌, false}
use Rattle.std.specs.Vec.Iter.{into_iter_items}
use Rattle.desk_questions.specs.Inside.QuestionCalls.{AreFoundBySome}
use Rattle.tune_asking.proofs.CallLemmas.{Goes}
use Rattle.desk_questions.proofs.found_numbers.found_by_some.Given as goal

abbrev pub invariant-loop-query : goal.invariant-loop-query
invariant-loop-query g l = record {
  goes : Goes g.S.TuneStore l.fn.store l.store;
  found : g.S.TuneStore.closed l.fn.store ≡ false → g.S.TuneStore.honest l.store
      → AreFoundBySome l.yielded (g.S.TuneStore.state l.fn.store) l.numbers.items;
  left : l.yielded ++ into_iter_items l.query-iterator ≡ l.fn.queries.items;
}
