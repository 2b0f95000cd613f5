use Rattle.std.proofs.Common.{◌≡◌, ℕ, ◌+◌, ◌-◌, ◌*◌, drop, ap, arith}
use Rattle.std.proofs.Math.Nat.{add-mul}
use Rattle.index_keys.specs.Entries.{Entry}
use Rattle.tune_index.specs.Leaves.{leaf_entry_bytes}
use Rattle.tune_index.proofs.LeafBytes.{moved_up, put_entries}
use Rattle.tune_index.proofs.leaf_edits.put_in.Goals as goal

pub returns-clause-entries : goal.returns-clause-entries
returns-clause-entries g c =
    let w = g.row.W in
    let i = c.args.place in
    let n = c.args.count in
    let m = n - i in
    let e : Entry = (c.args.key.now, c.args.value) in
    let S = i * (w + 4) in
    let T = (i + 1) * (w + 4) in
    let k = n * (w + 4) - i * (w + 4) in
    let old = c.args.bytes.now in
    let a : T ≡ S + 1 * (w + 4) = add-mul i 1 (w + 4) in
    let b : (n + 1) * (w + 4) ≡ n * (w + 4) + 1 * (w + 4) = add-mul n 1 (w + 4) in
    let d : (i + m) * (w + 4) ≡ S + m * (w + 4) = add-mul i m (w + 4) in
    let s : n ≡ i + m = omega arith in
    let x : n * (w + 4) ≡ (i + m) * (w + 4) = ap (λ (j : ℕ). j * (w + 4)) s in
    let room = c.requires.room in
    let same : k ≡ m * (w + 4) = omega (arith, x, d) in
    let shape = moved_up S T k (m * (w + 4)) (leaf_entry_bytes w e) old c.copy_within.new.self c.write_entry.new.bytes (omega (arith, a))
    (omega (arith, a, b, d, x, room)) same c.copy_within.ensures.after c.write_entry.ensures.bytes in
    put_entries w n i m e old c.write_entry.new.bytes (drop (T + k) old) s (omega (arith, b, room)) c.write_entry.ensures.fits shape
