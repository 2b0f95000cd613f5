use Rattle.std.proofs.Common.{List, OnOk, subst}
use Rattle.std.specs.Prelude.{slice_set}
use Rattle.index_keys.specs.Entries.{Entry}
use Rattle.tune_index.specs.Indexes.{HasPages}
use Rattle.tune_index.specs.Inside.LeafLists.{HasLeaves}
use Rattle.tune_index.proofs.edit.set_leaf.Goals as goal

pub returns-clause-leaves : goal.returns-clause-leaves
returns-clause-leaves g c =
    let old = c.args.edit.now.next in
    let new = c.set_image.new.edit.next in
    subst (λ (x : List Entry). OnOk c.set_image.result (HasPages old c.args.index.now.pages → (leaves : List (List Entry))
    → HasLeaves g.row.W old c.args.index.now leaves → HasLeaves g.row.W new c.set_image.new.index (slice_set leaves c.args.place x)))
    c.write_leaf.ensures.entries c.set_image.ensures.leaves
