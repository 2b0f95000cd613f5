use Rattle.std.proofs.Common.{◌≡◌, false, take}
use Rattle.tune_asking.proofs.CallLemmas.{Goes}
use Rattle.tune_changes.specs.Inside.LoadCalls.{TunesCome}
use Rattle.tune_changes.proofs.brought_parts.put_tunes.Given as goal

-- the tunes of the first numbers came
abbrev pub invariant-loop-number : goal.invariant-loop-number
invariant-loop-number g l = record {
  goes : Goes g.S.TuneStore l.fn.store l.store;
  come : g.S.TuneStore.closed l.fn.store ≡ false → g.S.TuneStore.honest l.store
      → TunesCome (take l.number-index l.numbers) l.fn.parts.items (g.S.TuneStore.state l.fn.store) l.parts.items;
}
