use Rattle.std.proofs.Common.{◌≡◌, ℕ, ◌+◌, ◌-◌, ◌*◌, ap, arith}
use Rattle.std.proofs.Math.Nat.{add-mul}
use Rattle.tune_index.proofs.LeafBytes.{moved_down, take_entries}
use Rattle.tune_index.proofs.leaf_edits.take_out.Goals as goal

pub returns-clause-entries : goal.returns-clause-entries
returns-clause-entries g c =
    let w = g.row.W in
    let i = c.args.place in
    let n = c.args.count in
    let m = n - 1 - i in
    let S = i * (w + 4) in
    let T = (i + 1) * (w + 4) in
    let N = (n - 1) * (w + 4) in
    let k = n * (w + 4) - (i + 1) * (w + 4) in
    let old = c.args.bytes.now in
    let place = c.requires.place in
    let room = c.requires.room in
    let a : T ≡ S + 1 * (w + 4) = add-mul i 1 (w + 4) in
    let s : n ≡ i + (m + 1) = omega arith in
    let t : n ≡ i + 1 + m = omega arith in
    let u : n - 1 ≡ i + m = omega arith in
    let d : (i + 1 + m) * (w + 4) ≡ T + m * (w + 4) = add-mul (i + 1) m (w + 4) in
    let f : (i + m) * (w + 4) ≡ S + m * (w + 4) = add-mul i m (w + 4) in
    let x : n * (w + 4) ≡ (i + 1 + m) * (w + 4) = ap (λ (j : ℕ). j * (w + 4)) t in
    let y : N ≡ (i + m) * (w + 4) = ap (λ (j : ℕ). j * (w + 4)) u in
    let same : k ≡ m * (w + 4) = omega (arith, x, d) in
    let front = c.clear_entry.ensures.front in
    let shape = moved_down S T k (m * (w + 4)) N old c.copy_within.new.self c.clear_entry.new.bytes front.0 (omega (arith, a, x, d, room))
    (omega (arith, x, d, room)) (omega (arith, y, f, same)) same c.copy_within.ensures.after front.1 in
    take_entries w n i m old c.clear_entry.new.bytes front.0 s room shape
