use Rattle.std.proofs.Common.{◌+◌, ◌++◌, List, take, drop, arith, ap, ◌∙◌}
use Rattle.std.specs.Prelude.{slice_set}
use Rattle.index_keys.specs.Entries.{Entry}
use Rattle.tune_index.specs.Inside.LeafLists.{joined_leaves}
use Rattle.tune_index.specs.Leaves.{leaf_in}
use Rattle.tune_index.proofs.LeafLists.{joined_set, length-leaves}
use Rattle.tune_index.proofs.insert.insert_in_leaf.Goals as goal

pub returns-in-Ok-clause-leaves : goal.returns-in-Ok-clause-leaves
returns-in-Ok-clause-leaves g c = λ has up leaves h.
    let leaf = leaf_in g.row.W c.insert_alone.new.image.bytes in
    let made = c.insert_alone.ensures.entries c.if-insert_alone.true up in
    let n = length-leaves g.row.W c.args.edit.now.next c.args.index.now leaves h in (
      slice_set leaves c.args.place leaf,
      c.in-Ok.ensures.leaves has leaves h,
      joined_set leaves c.args.place leaf (omega (arith, n, c.requires.place))
          ∙ ap (λ (x : List Entry). joined_leaves (take c.args.place leaves) ++ (x ++ joined_leaves (drop (c.args.place + 1) leaves))) made,
    )
