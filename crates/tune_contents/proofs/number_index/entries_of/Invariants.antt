use Rattle.std.proofs.Common.{◌≡◌, take}
use Rattle.index_keys.specs.Entries.{AllFit}
use Rattle.tune_search.specs.Searches.{key_bytes}
use Rattle.tune_format.specs.Written.{number_entries}
use Rattle.tune_contents.proofs.number_index.entries_of.Given as goal

abbrev pub invariant-loop-row : goal.invariant-loop-row
invariant-loop-row l = record {
  entries : l.run.items ≡ number_entries (take l.row-index l.rows);
  fit : AllFit key_bytes l.run.items;
}
