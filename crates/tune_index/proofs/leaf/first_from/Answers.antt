use Rattle.std.proofs.Common.{◌≡◌, ◌+◌, ◌-◌, ◌*◌, ◌/◌, ◌<◌, ◌≤◌, length, get_or, arith, inl, inr, sym, ◌∙◌, List, rules}
use Rattle.std.proofs.lemmas.Bool.{cases_lt}
use Rattle.index_keys.specs.Entries.{Entry, rank}
use Rattle.tune_index.specs.Leaves.{entries_in}
use Rattle.tune_index.proofs.Codec.{length-entries_in}
use Rattle.tune_index.proofs.Slots.{lower, slot_entry, slot_room, upper}
use Rattle.tune_index.proofs.leaf.first_from.Goals as goal

pub entry_of-entry-requires : goal.entry_of-entry-requires
entry_of-entry-requires g c =
    let m = c.loop-first.first + (c.loop-first.last - c.loop-first.first) / 2 in
    let r : (m + 1) * (g.row.W + 4) ≤ length c.args.bytes.now =
    slot_room g.row.W c.args.count m (length c.args.bytes.now) (omega (arith, c.loop-first.invariant.within)) c.requires.room in
    (search rules, (c.requires.width, r))

pub loop-first-preserved-then-is_before : goal.loop-first-preserved-then-is_before
loop-first-preserved-then-is_before g c =
    let r = rank (c.args.key.now, c.args.value) in
    let es : List Entry = entries_in g.row.W c.args.count c.args.bytes.now in
    let n = length-entries_in g.row.W c.args.count c.args.bytes.now in
    let m = c.loop-first.first + (c.loop-first.last - c.loop-first.first) / 2 in
    let e = c.entry_of-entry.result in
    let in_list : m < length es = omega (arith, n, c.loop-first.invariant.within) in
    let is : e ≡ get_or es m e = c.entry_of-entry.ensures.entry
    ∙ sym (slot_entry g.row.W c.args.count m e c.args.bytes.now (omega (arith, c.loop-first.invariant.within))) in
    let below : rank e < r = c.is_before.ensures.0 c.if-is_before.true in
    record {
      ordered = omega arith;
      within = c.loop-first.invariant.within;
      before = λ up. lower es m r e up in_list is below;
      after = c.loop-first.invariant.after;
    }

pub loop-first-preserved : goal.loop-first-preserved
loop-first-preserved g c =
    let r = rank (c.args.key.now, c.args.value) in
    let es : List Entry = entries_in g.row.W c.args.count c.args.bytes.now in
    let n = length-entries_in g.row.W c.args.count c.args.bytes.now in
    let m = c.loop-first.first + (c.loop-first.last - c.loop-first.first) / 2 in
    let e = c.entry_of-entry.result in
    let in_list : m < length es = omega (arith, n, c.loop-first.invariant.within) in
    let is : e ≡ get_or es m e = c.entry_of-entry.ensures.entry
    ∙ sym (slot_entry g.row.W c.args.count m e c.args.bytes.now (omega (arith, c.loop-first.invariant.within))) in
    let above : r ≤ rank e = elim (cases_lt (rank e) r) [
      | inl below ↦ absurd (let t = c.is_before.ensures.1 below in let f = c.if-is_before.false in cc)
      | inr over ↦ over
    ] in
    record {
      ordered = omega arith;
      within = omega (arith, c.loop-first.invariant.within);
      before = c.loop-first.invariant.before;
      after = λ up. upper es m r e up in_list is above;
    }

pub loop-first-init : goal.loop-first-init
loop-first-init g c =
    let n = length-entries_in g.row.W c.args.count c.args.bytes.now in
    record {
      ordered = omega arith;
      within = omega arith;
      before = λ _ k d below. absurd (omega arith);
      after = λ _ k d over within. absurd (omega (arith, n));
    }

pub returns-clause-place : goal.returns-clause-place
returns-clause-place g c = λ up.
    let n = length-entries_in g.row.W c.args.count c.args.bytes.now in
    let i = c.loop-first.invariant in
    record {
      in_range = omega (arith, n, i.ordered, i.within);
      smaller_before = i.before up;
      others_after = λ k d over within. i.after up k d (omega (arith, over, i.ordered, c.loop-first-test.false)) within;
    }
