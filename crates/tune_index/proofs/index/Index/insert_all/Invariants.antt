use Rattle.std.proofs.Common.{◌≡◌, ◌<◌, ◌≤◌, ◌-◌, take, length, Ok}
use Rattle.tune_pages.specs.Kept.{HonestAt}
use Rattle.tune_pages.specs.Editing.{Edits}
use Rattle.index_keys.specs.Entries.{inserted_all}
use Rattle.tune_index.specs.Indexes.{IsIndex, Reshapes, entries_of}
use Rattle.tune_index.proofs.index.Index.insert_all.Given as goal

abbrev pub invariant-loop-at : goal.invariant-loop-at
invariant-loop-at g l = record {
  within : l.at ≤ length l.run;
  some : 0 < length l.self.pages;
  edits : Edits {T = Unit {0}} g.D.Disk (Ok tt) ⊥ l.fn.edit l.edit;
  shape : Reshapes (HonestAt g.D.Disk.honest l.edit.base.disk) l.fn.edit.next l.edit.next l.fn.self l.self;
  index : HonestAt g.D.Disk.honest l.edit.base.disk → IsIndex g.row.W l.edit.next l.self;
  entries : HonestAt g.D.Disk.honest l.edit.base.disk → entries_of g.row.W l.edit.next l.self.pages
      ≡ inserted_all (take l.at l.run) (entries_of g.row.W l.fn.edit.next l.fn.self.pages);
}

abbrev pub decreases-loop-at : goal.decreases-loop-at
decreases-loop-at g l = length l.run - l.at
