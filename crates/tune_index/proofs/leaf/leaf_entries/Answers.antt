use Rattle.std.proofs.Common.{◌≡◌, sym, ◌∙◌, ap}
use Rattle.tune_index.specs.Leaves.{count_in}
use Rattle.tune_index.proofs.Codec.{leaf_in_is, length-leaf_in, to_end}
use Rattle.tune_index.proofs.leaf.leaf_entries.Goals as goal

pub returns-clause-entries : goal.returns-clause-entries
returns-clause-entries g c =
    let b = c.page_bytes.ensures.bytes in
    let n : c.leaf_length-count.result ≡ count_in c.page_bytes.result.now =
    c.leaf_length-count.ensures.count ∙ length-leaf_in g.row.W c.args.image.now.bytes ∙ sym (ap count_in b) in
    let t = to_end 2 c.page_bytes.result.now in
    rw (leaf_in_is g.row.W c.args.image.now.bytes, ← b, ← n, ← t) c.read_entries.ensures.entries
