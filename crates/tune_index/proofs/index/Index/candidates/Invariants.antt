use Rattle.std.proofs.Common.{◌≡◌, Ok, take}
use Rattle.tune_pages.specs.Kept.{HonestAt}
use Rattle.tune_pages.specs.Editing.{Consults}
use Rattle.index_keys.specs.Entries.{values_within}
use Rattle.tune_index.specs.Indexes.{entries_of}
use Rattle.tune_index.proofs.index.Index.candidates.Given as goal

abbrev pub invariant-loop-place : goal.invariant-loop-place
invariant-loop-place g l = record {
  consults : Consults {T = Unit {0}} g.D.Disk (Ok tt) l.fn.edit l.edit;
  so_far : HonestAt g.D.Disk.honest l.edit.base.disk
      → l.values.items ≡ values_within l.low l.high (entries_of g.row.W l.fn.edit.next (take l.place l.self.pages));
}
