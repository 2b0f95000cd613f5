use Rattle.std.proofs.Common.{◌≡◌, false, drop}
use Rattle.tune_asking.proofs.CallLemmas.{Goes}
use Rattle.tune_changes.specs.Planning.{first_unknown}
use Rattle.tune_changes.proofs.planning.look_for.Given as goal

abbrev pub invariant-loop-number : goal.invariant-loop-number
invariant-loop-number g l = record {
  goes : Goes g.S.TuneStore l.fn.store l.store;
  known : g.S.TuneStore.closed l.fn.store ≡ false → g.S.TuneStore.honest l.store
      → first_unknown l.numbers (g.S.TuneStore.state l.fn.store).tunes
      ≡ first_unknown (drop l.number-index l.numbers) (g.S.TuneStore.state l.fn.store).tunes;
}
