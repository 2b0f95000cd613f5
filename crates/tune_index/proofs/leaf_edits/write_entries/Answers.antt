use Rattle.std.proofs.Common.{rules, ◌≡◌, ◌+◌, ◌*◌, ◌≤◌, ◌++◌, ◌∷◌, [], List, length, take, drop, arith, sym, ap, ◌∙◌}
use Rattle.std.proofs.lemmas.List.{take_more}
use Rattle.index_keys.specs.Entries.{Entry}
use Rattle.tune_index.proofs.Slots.{slot_room}
use Rattle.tune_index.proofs.LeafBytes.{next_entry}
use Rattle.tune_index.proofs.leaf_edits.write_entries.Goals as goal

pub loop-place-preserved : goal.loop-place-preserved
loop-place-preserved g c =
    let w = g.row.W in
    let i = c.loop-place.place in
    let es : List Entry = c.args.entries.now in
    let e : Entry = c.index-entries-place.result in
    let old = c.loop-place.bytes in
    let kept = c.loop-place.invariant.length in
    let r : (i + 1) * (w + 4) ≤ length c.args.bytes.now =
    slot_room w (length es) i (length c.args.bytes.now) c.loop-place-test.true c.requires.room in
    let t : take (i + 1) es ≡ take i es ++ e ∷ [] =
    take_more es i e c.loop-place-test.true ∙ ap (λ (x : Entry). take i es ++ x ∷ []) (sym c.index-entries-place.is) in
    record {
      length = search rules;
      so_far = next_entry w i e (take i es) old c.write_entry.new.bytes (drop ((i + 1) * (w + 4)) old) (omega (arith, r, kept)) c.write_entry.ensures.fits
          c.loop-place.invariant.so_far c.write_entry.ensures.bytes ∙ sym t;
    }
