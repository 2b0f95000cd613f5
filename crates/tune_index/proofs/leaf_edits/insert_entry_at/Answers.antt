use Rattle.std.proofs.Common.{rules, ◌≡◌, ◌+◌, List, length, drop, arith, ap, ◌∙◌}
use Rattle.std.proofs.lemmas.List.{length-drop, length-take-le}
use Rattle.std.specs.List.{insert}
use Rattle.index_keys.specs.Entries.{Entry}
use Rattle.tune_index.proofs.Codec.{room_for}
use Rattle.tune_index.proofs.LeafBytes.{image_leaf, image_written}
use Rattle.tune_index.proofs.leaf_edits.insert_entry_at.Goals as goal

pub put_in-requires : goal.put_in-requires
put_in-requires g c =
    let whole : length c.args.image.now.bytes ≡ 4096 = search rules in
    let r = room_for g.row.W (c.args.count + 1) (omega (arith, c.requires.room)) in
    let d = length-drop 2 c.args.image.now.bytes in
    let l = length-take-le 4094 (drop 2 c.args.image.now.bytes) (omega (arith, d, whole)) in
    (search rules, (c.requires.width, (c.requires.place, omega (arith, r, l))))

pub returns-clause-form : goal.returns-clause-form
returns-clause-form g c =
    let whole : length c.args.image.now.bytes ≡ 4096 = search rules in
    let most = c.capacity_of-most.ensures in
    let w = image_written g.row.W (c.args.count + 1) c.args.image.now.bytes c.put_in.new.bytes c.write_count.new.image.bytes whole
    (omega (arith, most.exact, most.within, c.requires.room)) c.write_count.ensures in
    record { some = omega (arith, w.0); within = omega (arith, w.0, c.requires.room) }

pub returns-clause-entries : goal.returns-clause-entries
returns-clause-entries g c =
    let whole : length c.args.image.now.bytes ≡ 4096 = search rules in
    let most = c.capacity_of-most.ensures in
    let e : Entry = (c.args.key.now, c.args.value) in
    let w = image_written g.row.W (c.args.count + 1) c.args.image.now.bytes c.put_in.new.bytes c.write_count.new.image.bytes whole
    (omega (arith, most.exact, most.within, c.requires.room)) c.write_count.ensures in
    w.1 ∙ c.put_in.ensures.entries
    ∙ ap (λ (x : List Entry). insert x c.args.place e) (image_leaf g.row.W c.args.count c.args.image.now.bytes whole c.requires.count)
