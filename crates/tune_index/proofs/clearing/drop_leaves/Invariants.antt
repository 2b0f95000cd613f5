use Rattle.std.proofs.Common.{◌≡◌, true, length}
use Rattle.tune_index.specs.Indexes.{HasPages, Reshapes}
use Rattle.tune_index.proofs.clearing.drop_leaves.Given as goal

abbrev pub invariant-loop-rest : goal.invariant-loop-rest
invariant-loop-rest g l = record {
  count : length l.index.pages ≡ l.rest;
  heads : length l.index.heads ≡ l.rest;
  base : l.edit.base ≡ l.fn.edit.base;
  live : l.edit.live ≡ true;
  shape : Reshapes (HasPages l.fn.edit.next l.fn.index.pages) l.fn.edit.next l.edit.next l.fn.index l.index;
}

abbrev pub decreases-loop-rest : goal.decreases-loop-rest
decreases-loop-rest g l = l.rest
