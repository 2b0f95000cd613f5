use Rattle.std.proofs.Common.{◌≡◌, false, [], take, drop}
use Rattle.tune_asking.proofs.CallLemmas.{Goes}
use Rattle.tune_changes.specs.Inside.TurnPlans.{all_gone}
use Rattle.tune_changes.proofs.PlanLemmas.{before}
use Rattle.tune_changes.proofs.planning.all_gone.Given as goal

abbrev pub invariant-loop-place : goal.invariant-loop-place
invariant-loop-place g l = record {
  goes : Goes g.S.TuneStore l.fn.store l.store;
  planned : g.S.TuneStore.closed l.fn.store ≡ false → g.S.TuneStore.honest l.store
      → all_gone [] l.held l.numbers (g.S.TuneStore.state l.fn.store)
      ≡ before l.turns.items
      (all_gone (take l.place l.numbers) (drop l.place l.held) (drop l.place l.numbers) (g.S.TuneStore.state l.fn.store));
}
