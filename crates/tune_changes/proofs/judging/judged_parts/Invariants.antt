use Rattle.std.proofs.Common.{◌≡◌, false, take, drop}
use Rattle.tune_asking.proofs.CallLemmas.{Goes}
use Rattle.tune_changes.specs.Judging.{all_before, first_changed}
use Rattle.tune_changes.proofs.judging.judged_parts.Given as goal

abbrev pub invariant-loop-place : goal.invariant-loop-place
invariant-loop-place g l = record {
  goes : Goes g.S.TuneStore l.fn.store l.store;
  changed : g.S.TuneStore.closed l.fn.store ≡ false → g.S.TuneStore.honest l.store
      → first_changed l.parts 0 (g.S.TuneStore.state l.fn.store)
      ≡ first_changed (drop l.place l.parts) l.place (g.S.TuneStore.state l.fn.store);
  so_far : g.S.TuneStore.closed l.fn.store ≡ false → g.S.TuneStore.honest l.store
      → l.before ≡ all_before (take l.place l.parts) (g.S.TuneStore.state l.fn.store);
}
