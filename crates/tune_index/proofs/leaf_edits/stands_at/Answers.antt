use Rattle.std.proofs.Common.{rules, ◌≡◌, ◌<◌, ◌≤◌, get_or, arith, inl, inr, sym, ◌∙◌, ap, List, IsTrue}
use Rattle.std.proofs.lemmas.Bool.{cases_lt}
use Rattle.index_keys.specs.Entries.{Entry, rank}
use Rattle.tune_index.specs.Leaves.{entries_in}
use Rattle.tune_index.proofs.Codec.{length-entries_in}
use Rattle.tune_index.proofs.Slots.{slot_entry}
use Rattle.tune_index.proofs.leaf_edits.stands_at.Goals as goal

pub returns-then-place-count-clause-equal : goal.returns-then-place-count-clause-equal
returns-then-place-count-clause-equal g c = λ p yes d.
    let key : Entry = (c.args.key.now, c.args.value) in
    let es : List Entry = entries_in g.row.W c.args.count c.args.bytes.now in
    let n = length-entries_in g.row.W c.args.count c.args.bytes.now in
    let l = c.if-place-count.true in
    let e : Entry = c.entry_of-entry.result in
    let same : rank (get_or es c.args.place d) ≡ rank e =
    ap rank (slot_entry g.row.W c.args.count c.args.place d c.args.bytes.now l ∙ sym c.entry_of-entry.ensures.entry) in
    let above : rank key ≤ rank (get_or es c.args.place d) = p.others_after c.args.place d (omega arith) (omega (arith, n, l)) in
    let below : rank e ≤ rank key = elim (cases_lt (rank key) (rank e)) [
      | inl before ↦ absurd (let t : IsTrue c.is_before.result = c.is_before.ensures.1 before in search rules)
      | inr over ↦ over
    ] in
    omega (arith, same, above, below)

pub returns-then-place-count-clause-other : goal.returns-then-place-count-clause-other
returns-then-place-count-clause-other g c = λ no l p d.
    let key : Entry = (c.args.key.now, c.args.value) in
    let es : List Entry = entries_in g.row.W c.args.count c.args.bytes.now in
    let e : Entry = c.entry_of-entry.result in
    let same : rank (get_or es c.args.place d) ≡ rank e =
    ap rank (slot_entry g.row.W c.args.count c.args.place d c.args.bytes.now l ∙ sym c.entry_of-entry.ensures.entry) in
    let yes : IsTrue c.is_before.result = search rules in
    let before : rank key < rank e = c.is_before.ensures.0 yes in
    omega (arith, same, before)
