use Rattle.std.proofs.Common.{ℕ, ◌*◌, ◌+◌, List, drop, arith, sym, ap, ◌∙◌}
use Rattle.index_keys.specs.Entries.{Entry}
use Rattle.tune_index.specs.Leaves.{count_in, entry_in, slice_entry}
use Rattle.tune_index.proofs.Codec.{leaf_in_is, to_end}
use Rattle.tune_index.proofs.Slots.{slot_entry}
use Rattle.tune_index.proofs.leaf_edits.first_in_image.Goals as goal

pub returns : goal.returns
returns g c =
    let image = c.args.image.now.bytes in
    let b = c.page_bytes.ensures.bytes in
    c.entry_of.ensures.entry
    ∙ ap (λ (x : List ℕ). entry_in g.row.W (drop (0 * (g.row.W + 4)) x)) (to_end 2 c.page_bytes.result.now ∙ ap (drop 2) b)
    ∙ sym (ap (λ (x : List Entry). slice_entry x 0) (leaf_in_is g.row.W image)
    ∙ slot_entry g.row.W (count_in image) 0 (0, 0) (drop 2 image) (omega (arith, c.requires.form.some)))
