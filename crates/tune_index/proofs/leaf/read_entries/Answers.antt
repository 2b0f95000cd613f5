use Rattle.std.proofs.Common.{rules, ◌≡◌, ℕ, ◌+◌, ◌-◌, suc, sym, ◌∙◌, ap, arith, List, [], ◌∷◌, ◌++◌, length, drop, append_assoc, length-drop}
use Rattle.index_keys.specs.Entries.{Entry}
use Rattle.tune_index.specs.Leaves.{entries_in, entry_in}
use Rattle.tune_index.proofs.Codec.{room_more, AllFit-push, to_end}
use Rattle.tune_index.proofs.leaf.read_entries.Goals as goal

-- one entry more from the front of the rest
step : (width n m : ℕ) (es : List Entry) (e : Entry) (rest : List ℕ) (all : List Entry) → n ≡ suc m → e ≡ entry_in width rest
    → es ++ entries_in width n rest ≡ all → (es ++ e ∷ []) ++ entries_in width m (drop (width + 4) rest) ≡ all
step width n m es e rest all s i h =
    let f : entries_in width n rest ≡ e ∷ entries_in width m (drop (width + 4) rest) = ap (λ (k : ℕ). entries_in width k rest) s
    ∙ ap (λ (x : Entry). x ∷ entries_in width m (drop (width + 4) rest)) (sym i) in
    append_assoc es (e ∷ []) (entries_in width m (drop (width + 4) rest)) ∙ sym (ap (λ (x : List Entry). es ++ x) f) ∙ h

pub loop-done-preserved : goal.loop-done-preserved
loop-done-preserved g c =
    let s : c.args.count - c.loop-done.done ≡ suc (c.args.count - (c.loop-done.done + 1)) = omega arith in
    let r = room_more g.row.W (c.args.count - c.loop-done.done) (c.args.count - (c.loop-done.done + 1)) (length c.loop-done.rest.now) s
    c.loop-done.invariant.room in
    let t = to_end (g.row.W + 4) c.loop-done.rest.now in
    let d = length-drop (g.row.W + 4) c.loop-done.rest.now in
    let p : c.push.new.self.items ≡ c.loop-done.entries.items ++ c.entry_at.result ∷ [] = search rules in
    let st = step g.row.W (c.args.count - c.loop-done.done) (c.args.count - (c.loop-done.done + 1)) c.loop-done.entries.items c.entry_at.result
    c.loop-done.rest.now
    (entries_in g.row.W c.args.count c.args.bytes.now) s c.entry_at.ensures.entry c.loop-done.invariant.so_far in
    let f = AllFit-push g.row.W c.loop-done.entries.items c.entry_at.result c.loop-done.invariant.fit c.entry_at.ensures.fits in
    record { room = rw t (omega arith); fit = rw p f; so_far = rw (t, p) st }

pub entry_at-requires : goal.entry_at-requires
entry_at-requires g c =
    let s : c.args.count - c.loop-done.done ≡ suc (c.args.count - (c.loop-done.done + 1)) = omega arith in
    let r = room_more g.row.W (c.args.count - c.loop-done.done) (c.args.count - (c.loop-done.done + 1)) (length c.loop-done.rest.now) s
    c.loop-done.invariant.room in
    (search rules, (c.requires.width, r.0))
