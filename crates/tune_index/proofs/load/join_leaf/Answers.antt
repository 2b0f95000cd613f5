use Rattle.std.proofs.Common.{◌≡◌, ℕ, ◌+◌, ◌-◌, suc, arith, List, [], ◌∷◌, ◌++◌, length, length-append, length-drop, drop, rules, sym, ◌∙◌, ap}
use Rattle.index_keys.specs.Entries.{Entry, IsRising}
use Rattle.tune_index.specs.Leaves.{count_in, entries_in, leaf_in}
use Rattle.tune_index.proofs.Codec.{leaf_in_is, length-leaf_in, room_more, to_end}
use Rattle.tune_index.proofs.Joining.{joined_none, joined_more, joined_front}
use Rattle.tune_index.proofs.load.join_leaf.Goals as goal

pub loop-done-init : goal.loop-done-init
loop-done-init g c =
    let image = c.args.image.now.bytes in
    let bytes = c.page_bytes.result.now in
    let all : c.leaf_length-count.result - 0 ≡ c.leaf_length-count.result = omega arith in
    let many : c.leaf_length-count.result - 0 ≡ count_in image =
    omega (arith, c.leaf_length-count.ensures.count, length-leaf_in g.row.W image) in
    let whole : entries_in g.row.W (c.leaf_length-count.result - 0) (drop 2 bytes) ≡ leaf_in g.row.W image =
    ap (λ (k : ℕ). entries_in g.row.W k (drop 2 bytes)) many
    ∙ ap (λ (x : List ℕ). entries_in g.row.W (count_in image) (drop 2 x)) c.page_bytes.ensures.bytes ∙ sym (leaf_in_is g.row.W image) in
    let long : length bytes ≡ length image = ap length c.page_bytes.ensures.bytes in
    record {
      room = rw (to_end 2 bytes, all) (omega (arith, c.leaf_length-count.ensures.room, long, length-drop 2 bytes));
      rising = c.requires.rising;
      few = omega (arith, c.leaf_length-count.ensures.count);
      joined = rw (to_end 2 bytes)
          (joined_none g.row.W (g.L.EntryList.entries c.args.entries.now) (c.leaf_length-count.result - 0) (drop 2 bytes) (leaf_in g.row.W image) whole);
    }

pub entry_at-key-requires : goal.entry_at-key-requires
entry_at-key-requires g c =
    let s : c.leaf_length-count.result - c.loop-done.done ≡ suc (c.leaf_length-count.result - (c.loop-done.done + 1)) = omega arith in
    let r = room_more g.row.W (c.leaf_length-count.result - c.loop-done.done) (c.leaf_length-count.result - (c.loop-done.done + 1))
    (length c.loop-done.rest.now) s c.loop-done.invariant.room in
    (search rules, (c.requires.width, r.0))

pub returns-then-not-branch-clause-no : goal.returns-then-not-branch-clause-no
returns-then-not-branch-clause-no g c = λ _ up.
    let now : List Entry = g.L.EntryList.entries c.loop-done.entries in
    let e : Entry = c.entry_at-key.result in
    let s : c.leaf_length-count.result - c.loop-done.done ≡ suc (c.leaf_length-count.result - (c.loop-done.done + 1)) = omega arith in
    let rises : IsRising (now ++ e ∷ []) = joined_front g.row.W _ _ (g.L.EntryList.entries c.args.entries.now) now e c.loop-done.rest.now _ s
    c.entry_at-key.ensures.entry c.entry_at-key.ensures.fits c.loop-done.invariant.joined up in
    c.in_ok-put_behind.ensures.no (search rules) rises

pub loop-done-preserved : goal.loop-done-preserved
loop-done-preserved g c =
    let now : List Entry = g.L.EntryList.entries c.loop-done.entries in
    let e : Entry = c.entry_at-key.result in
    let s : c.leaf_length-count.result - c.loop-done.done ≡ suc (c.leaf_length-count.result - (c.loop-done.done + 1)) = omega arith in
    let r = room_more g.row.W (c.leaf_length-count.result - c.loop-done.done) (c.leaf_length-count.result - (c.loop-done.done + 1))
    (length c.loop-done.rest.now) s c.loop-done.invariant.room in
    let t = to_end (g.row.W + 4) c.loop-done.rest.now in
    let d = length-drop (g.row.W + 4) c.loop-done.rest.now in
    let yes = c.in_ok-put_behind.ensures.yes (search rules) in
    let p : g.L.EntryList.entries c.put_behind.new.self ≡ now ++ e ∷ [] = yes.0 in
    let long = ap length p ∙ length-append now (e ∷ []) in
    let few = c.loop-done.invariant.few in
    let so = joined_more g.row.W _ _ (g.L.EntryList.entries c.args.entries.now) now e c.loop-done.rest.now _ s
    c.entry_at-key.ensures.entry c.entry_at-key.ensures.fits c.loop-done.invariant.joined in
    record { room = rw t (omega arith); rising = yes.1; few = omega (arith, long, few, s); joined = rw (t, p) so }
