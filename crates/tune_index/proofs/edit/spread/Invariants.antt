use Rattle.std.proofs.Common.{◌≡◌, ◌+◌, ◌<◌, ◌≤◌, List, length, slice_index}
use Rattle.tune_pages.specs.Frame.{InUse}
use Rattle.index_keys.specs.Entries.{Entry}
use Rattle.tune_index.specs.Indexes.{HasPages, Reshapes}
use Rattle.tune_index.specs.Inside.LeafLists.{HasLeaves}
use Rattle.tune_index.proofs.LeafLists.{Spread}
use Rattle.tune_index.proofs.edit.spread.Given as goal

abbrev pub invariant-loop-rest : goal.invariant-loop-rest
invariant-loop-rest g l = record {
  some : 1 ≤ l.rest;
  within : l.rest ≤ length l.entries;
  base : l.edit.base ≡ l.fn.edit.base;
  live : l.edit.live ≡ l.fn.edit.live;
  place : l.place < length l.index.pages;
  in_use : InUse l.edit.next (slice_index l.index.pages l.place);
  few : length l.index.pages + l.rest ≤ length l.fn.index.pages + length l.entries;
  shape : Reshapes (HasPages l.fn.edit.next l.fn.index.pages) l.fn.edit.next l.edit.next l.fn.index l.index;
  leaves : HasPages l.fn.edit.next l.fn.index.pages → (leaves : List (List Entry))
      → HasLeaves g.row.W l.fn.edit.next l.fn.index leaves
      → (more : List (List Entry)) × HasLeaves g.row.W l.edit.next l.index more × Spread l.place l.rest l.entries leaves more;
}

abbrev pub decreases-loop-rest : goal.decreases-loop-rest
decreases-loop-rest g l = l.rest
