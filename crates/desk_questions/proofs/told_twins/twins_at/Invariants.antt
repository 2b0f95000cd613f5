use Rattle.std.proofs.Common.{◌≡◌, false, take}
use Rattle.desk_questions.specs.Inside.SeenTunes.{AreSeen}
use Rattle.tune_asking.proofs.CallLemmas.{Goes}
use Rattle.desk_questions.proofs.told_twins.twins_at.Given as goal

abbrev pub invariant-loop-number : goal.invariant-loop-number
invariant-loop-number g l = record {
  goes : Goes g.S.TuneStore l.fn.store l.store;
  seen : g.S.TuneStore.closed l.fn.store ≡ false → g.S.TuneStore.honest l.store
      → AreSeen (take l.number-index l.numbers) (g.S.TuneStore.state l.fn.store) l.seen;
}
