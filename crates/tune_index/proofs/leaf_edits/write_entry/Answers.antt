use Rattle.std.proofs.Common.{◌≡◌, ℕ, ◌+◌, ◌-◌, ◌*◌, List, ◌++◌, length, take, drop, sym, ap, ◌∙◌, arith}
use Rattle.std.proofs.Math.Nat.{add-mul}
use Rattle.byteorder.specs.Endian.{big_bytes}
use Rattle.tune_index.specs.Leaves.{value_bytes}
use Rattle.tune_index.proofs.Codec.{length-value_bytes}
use Rattle.tune_index.proofs.LeafBytes.{entry_written}
use Rattle.tune_index.proofs.leaf_edits.write_entry.Goals as goal

pub returns-clause-bytes : goal.returns-clause-bytes
unfolding value_bytes
returns-clause-bytes g c =
    let F = c.args.place * (g.row.W + 4) in
    let old = c.args.bytes.now in
    let kb : c.copy_from_slice.new.self ≡ big_bytes g.row.W c.args.key.now = c.copy_from_slice.ensures.after ∙ c.bytes.ensures.bytes in
    let a : (c.args.place + 1) * (g.row.W + 4) ≡ F + 1 * (g.row.W + 4) = add-mul c.args.place 1 (g.row.W + 4) in
    let k : F + g.row.W - F ≡ g.row.W = omega arith in
    let E = (c.args.place + 1) * (g.row.W + 4) in
    let X = take F old ++ (c.copy_from_slice.new.self ++ drop (F + g.row.W - F) (drop F old)) in
    let is : X ≡ take F old ++ (big_bytes g.row.W c.args.key.now ++ drop g.row.W (drop F old)) =
    ap (λ (x : List ℕ). take F old ++ (x ++ drop (F + g.row.W - F) (drop F old))) kb
    ∙ ap (λ (j : ℕ). take F old ++ (big_bytes g.row.W c.args.key.now ++ drop j (drop F old))) k in
    entry_written F g.row.W E old (big_bytes g.row.W c.args.key.now) (value_bytes c.args.value) X c.write_u32.new.buf
    (sym (ap length c.bytes.ensures.bytes) ∙ c.bytes.ensures.length) (length-value_bytes c.args.value) (omega (arith, a)) c.requires.room is c.write_u32.ensures
