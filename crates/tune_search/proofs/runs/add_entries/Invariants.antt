use Rattle.std.proofs.Common.{◌≡◌, ◌++◌, drop}
use Rattle.index_keys.specs.Entries.{AllFit}
use Rattle.tune_search.specs.Inside.TextEntries.{entries_at_keys}
use Rattle.tune_search.proofs.runs.add_entries.Given as goal

abbrev pub invariant-loop-key : goal.invariant-loop-key
invariant-loop-key g l = record {
  added : l.run.items ++ entries_at_keys l.number (drop l.key-index l.keys)
      ≡ l.initial.run.items ++ entries_at_keys l.number l.keys;
  fit : AllFit g.row.W l.initial.run.items → AllFit g.row.W l.run.items;
}
