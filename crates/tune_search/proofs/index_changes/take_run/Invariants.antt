use Rattle.std.proofs.Common.{Ok, take}
use Rattle.tune_pages.specs.Kept.{HonestAt}
use Rattle.tune_pages.specs.Editing.{Edits}
use Rattle.index_keys.specs.Entries.{removed_all}
use Rattle.tune_index.specs.Indexes.{KeepsBalance}
use Rattle.tune_search.specs.IndexParts.{LaysIndex}
use Rattle.tune_search.proofs.index_changes.take_run.Given as goal

abbrev pub invariant-loop-entry : goal.invariant-loop-entry
invariant-loop-entry g l = record {
  edits : Edits {T = Unit {0}} g.D.Disk (Ok tt) ⊥ l.fn.edit l.edit;
  lays : HonestAt g.D.Disk.honest l.edit.base.disk → LaysIndex g.row.W l.fn.edit.next l.edit.next l.fn.index l.index
      (λ entries. removed_all (take l.entry-index l.run) entries);
  balance : KeepsBalance l.fn.edit.next l.edit.next l.fn.index.pages l.index.pages;
}
