use Rattle.std.proofs.Common.{◌≡◌, ◌++◌, false, drop}
use Rattle.tune_asking.proofs.CallLemmas.{Goes}
use Rattle.desk_changes.specs.TakenBack.{all_gone_by}
use Rattle.desk_changes.proofs.undone.taken_by.Given as goal

abbrev pub invariant-loop-part : goal.invariant-loop-part
invariant-loop-part g l = record {
  goes : Goes g.S.TuneStore l.fn.store l.store;
  texts : g.S.TuneStore.closed l.fn.store ≡ false → g.S.TuneStore.honest l.store
      → all_gone_by l.entry.parts.items (g.S.TuneStore.state l.fn.store)
      ≡ l.parts.items ++ all_gone_by (drop l.part-index l.entry.parts.items) (g.S.TuneStore.state l.fn.store);
}
