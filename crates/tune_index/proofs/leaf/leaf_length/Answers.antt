use Rattle.std.proofs.Common.{◌≡◌, ◌+◌, ◌*◌, ◌≤◌, ℕ, length, sym, subst, ◌∙◌, ap, arith}
use Rattle.tune_index.specs.Leaves.{count_in}
use Rattle.tune_index.proofs.Codec.{length-leaf_in, room_for}
use Rattle.tune_index.proofs.leaf.leaf_length.Goals as goal

pub returns-clause-count : goal.returns-clause-count
returns-clause-count g c =
    c.read_count.ensures ∙ ap count_in c.page_bytes.ensures.bytes ∙ sym (length-leaf_in g.row.W c.args.image.now.bytes)

pub returns-clause-room : goal.returns-clause-room
returns-clause-room g c =
    let n : c.read_count.result ≡ count_in c.args.image.now.bytes = c.read_count.ensures ∙ ap count_in c.page_bytes.ensures.bytes in
    let r = room_for g.row.W (count_in c.args.image.now.bytes) c.requires.form.within in
    let l = c.page_bytes.ensures.length in
    let b = ap length c.page_bytes.ensures.bytes in
    let whole : 2 + count_in c.args.image.now.bytes * (g.row.W + 4) ≤ length c.args.image.now.bytes = omega (arith, r, l, b) in
    subst (λ (k : ℕ). 2 + k * (g.row.W + 4) ≤ length c.args.image.now.bytes) (sym n) whole
