use Rattle.std.proofs.Common.{rules, ◌+◌, ◌-◌, ◌*◌, ◌≤◌, arith, length, take, drop, length-drop}
use Rattle.tune_index.specs.Leaves.{capacity}
use Rattle.tune_index.proofs.Codec.{room_for, leaf_in_is, to_end}
use Rattle.tune_index.proofs.leaf.add_values_of.Goals as goal

pub add_values-requires : goal.add_values-requires
add_values-requires g c =
    let w : c.read_count-count.result ≤ capacity g.row.W = omega (arith, c.if-count-capacity_of.false, c.capacity_of.ensures.exact) in
    let r = room_for g.row.W c.read_count-count.result w in
    let l = c.page_bytes-bytes.ensures.length in
    let d = length-drop 2 c.page_bytes-bytes.result.now in
    let whole : c.read_count-count.result * (g.row.W + 4) ≤ length (take (length c.page_bytes-bytes.result.now - 2) (drop 2 c.page_bytes-bytes.result.now)) =
    rw (to_end 2 c.page_bytes-bytes.result.now) (omega arith) in
    (search rules, (c.requires, whole))

pub returns-clause-values : goal.returns-clause-values
returns-clause-values g c = λ yes.
    let e = c.in_ok-add_values.ensures in
    let b = c.page_bytes-bytes.ensures.bytes in
    let n = c.read_count-count.ensures in
    let t = to_end 2 c.page_bytes-bytes.result.now in
    rw (leaf_in_is g.row.W c.args.image.now.bytes, ← b, ← n, ← t) e
