use Rattle.std.proofs.Common.{rules, ◌≡◌, length, drop, arith, ◌∙◌}
use Rattle.std.proofs.lemmas.List.{length-drop, length-take-le}
use Rattle.tune_index.proofs.Codec.{room_for}
use Rattle.tune_index.proofs.LeafBytes.{image_written}
use Rattle.tune_index.proofs.leaf_edits.write_leaf.Goals as goal

pub write_entries-requires : goal.write_entries-requires
write_entries-requires g c =
    let whole : length c.args.image.now.bytes ≡ 4096 = search rules in
    let r = room_for g.row.W (length c.args.entries.now) c.requires.within in
    let d = length-drop 2 c.args.image.now.bytes in
    let l = length-take-le 4094 (drop 2 c.args.image.now.bytes) (omega (arith, d, whole)) in
    (search rules, (c.requires.width, omega (arith, r, l)))

pub returns-clause-form : goal.returns-clause-form
returns-clause-form g c =
    let whole : length c.args.image.now.bytes ≡ 4096 = search rules in
    let most = c.capacity_of-most.ensures in
    let w = image_written g.row.W (length c.args.entries.now) c.args.image.now.bytes c.write_entries.new.bytes c.write_count.new.image.bytes whole
    (omega (arith, most.exact, most.within, c.requires.within)) c.write_count.ensures in
    record { some = omega (arith, w.0, c.requires.some); within = omega (arith, w.0, c.requires.within) }

pub returns-clause-entries : goal.returns-clause-entries
returns-clause-entries g c =
    let whole : length c.args.image.now.bytes ≡ 4096 = search rules in
    let most = c.capacity_of-most.ensures in
    let w = image_written g.row.W (length c.args.entries.now) c.args.image.now.bytes c.write_entries.new.bytes c.write_count.new.image.bytes whole
    (omega (arith, most.exact, most.within, c.requires.within)) c.write_count.ensures in
    w.1 ∙ c.write_entries.ensures
