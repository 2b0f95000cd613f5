use Rattle.std.proofs.Common.{rules, ◌≡◌, List, length, take, drop, arith, ◌∙◌}
use Rattle.index_keys.specs.Entries.{Entry}
use Rattle.tune_index.specs.Leaves.{entries_in, leaf_in}
use Rattle.tune_index.proofs.Codec.{length-entries_in}
use Rattle.tune_index.proofs.Edits.{Searched, inserts, keeps}
use Rattle.tune_index.proofs.LeafBytes.{image_leaf}
use Rattle.tune_index.proofs.leaf_edits.insert_in_image.Goals as goal

pub returns-then-stands_at-clause-entries : goal.returns-then-stands_at-clause-entries
returns-then-stands_at-clause-entries g c = λ _ up.
    let e : Entry = (c.args.key.now, c.args.value) in
    let image = c.args.image.now.bytes in
    let n = c.leaf_length-count.result in
    let whole : length image ≡ 4096 = search rules in
    let es : List Entry = entries_in g.row.W n (take 4094 (drop 2 image)) in
    let size = length-entries_in g.row.W n (take 4094 (drop 2 image)) in
    let same = image_leaf g.row.W n image whole c.leaf_length-count.ensures.count in
    let h : Searched (leaf_in g.row.W image) es es c.first_from-place.result e c.stands_at.result = record {
      first = same;
      second = same;
      place = c.first_from-place.ensures.place;
      here = λ t. (let l = c.stands_at.ensures.here t in omega (arith, l, size));
      equal = c.stands_at.ensures.equal;
      other = λ no l. c.stands_at.ensures.other no (omega (arith, l, size));
    } in
    keeps _ _ _ _ _ _ h c.if-stands_at.true up

pub returns-clause-entries : goal.returns-clause-entries
returns-clause-entries g c = λ _ up.
    let e : Entry = (c.args.key.now, c.args.value) in
    let image = c.args.image.now.bytes in
    let n = c.leaf_length-count.result in
    let whole : length image ≡ 4096 = search rules in
    let es : List Entry = entries_in g.row.W n (take 4094 (drop 2 image)) in
    let size = length-entries_in g.row.W n (take 4094 (drop 2 image)) in
    let same = image_leaf g.row.W n image whole c.leaf_length-count.ensures.count in
    let h : Searched (leaf_in g.row.W image) es es c.first_from-place.result e c.stands_at.result = record {
      first = same;
      second = same;
      place = c.first_from-place.ensures.place;
      here = λ t. (let l = c.stands_at.ensures.here t in omega (arith, l, size));
      equal = c.stands_at.ensures.equal;
      other = λ no l. c.stands_at.ensures.other no (omega (arith, l, size));
    } in
    c.insert_entry_at.ensures.entries ∙ inserts _ _ _ _ _ _ h c.if-stands_at.false up
