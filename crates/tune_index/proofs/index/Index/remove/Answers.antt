use Rattle.std.proofs.Common.{◌≡◌, ◌+◌, ◌<◌, List, length, arith, sym, ap, ◌∙◌, subst}
use Rattle.index_keys.specs.Entries.{Entry, rank, IsRising}
use Rattle.tune_index.specs.Indexes.{IsIndex}
use Rattle.tune_index.specs.Inside.LeafLists.{leaves_of}
use Rattle.tune_index.specs.Leaves.{slice_entry}
use Rattle.tune_index.proofs.Splits.{heads_rise}
use Rattle.tune_index.proofs.Puts.{length-heads_of}
use Rattle.tune_index.proofs.LeafLists.{leaves_of_index}
use Rattle.tune_index.proofs.Runs.{entry_removed, leaf_rises}
use Rattle.tune_index.proofs.index.Index.remove.Goals as goal

pub returns-in-Ok-clause-entries : goal.returns-in-Ok-clause-entries
returns-in-Ok-clause-entries g c = λ honest.
    let s0 = c.args.edit.now.next in
    let s2 = c.remove_at.new.edit.next in
    let was = c.args.self.now in
    let ix : IsIndex g.row.W s0 was = c.requires.index (c.in-Ok.ensures.edits.looks.was_honest honest) in
    let place = c.leaf_for-place.result in
    let heads : IsRising was.heads = subst (λ (x : List Entry). IsRising x) (sym ix.heads) (heads_rise g.row.W 0 s0 was.pages ix.form ix.rising) in
    let b = c.leaf_for-place.ensures.belongs heads in
    let n : length was.heads ≡ length was.pages = ap length ix.heads ∙ length-heads_of g.row.W s0 was.pages in
    let to : place + 1 < length was.pages → rank (c.args.key.now, c.args.value) < rank (slice_entry was.heads (place + 1)) = λ m. b.to (omega (arith, m, n)) in
    let d = c.in-Ok.ensures.leaves honest (leaves_of g.row.W s0 was.pages) (leaves_of_index g.row.W s0 was ix)
    (leaf_rises g.row.W s0 was.pages place c.leaf_for-place.ensures.place ix.rising) in
    entry_removed g.row.W s0 s2 was c.remove_at.new.index place (c.args.key.now, c.args.value) d.0 ix c.leaf_for-place.ensures.place b.from to d.1 d.2
