use Rattle.std.proofs.Common.{Bool, ◌≡◌, ◌∙◌, ℕ, ◌+◌, ◌-◌, ◌<◌, ◌++◌, List, take, drop, set, slice_index, arith, sym, ap, refl, subst}
use Rattle.std.proofs.Math.Seq.{drop-length}
use Rattle.std.specs.List.{insert}
use Rattle.tune_pages.specs.Faults.{free_pages}
use Rattle.tune_pages.specs.Frame.{InUse}
use Rattle.tune_pages.proofs.Edits.{fault_for}
use Rattle.index_keys.specs.Entries.{Entry}
use Rattle.tune_pages.specs.Editing.{IsEditFault}
use Rattle.tune_index.specs.Inside.LeafLists.{joined_leaves}
use Rattle.tune_index.proofs.Changes.{shape_none, shape_then}
use Rattle.tune_index.proofs.LeafLists.{spread_more, spread_done, length-leaves}
use Rattle.tune_index.proofs.edit.spread.Goals as goal

pub loop-rest-init : goal.loop-rest-init
loop-rest-init g c = record {
  some = c.requires.some;
  within = omega arith;
  base = refl;
  live = refl;
  place = c.requires.place;
  in_use = c.requires.in_use;
  few = omega arith;
  shape = shape_none c.args.index.now c.args.edit.now.next (λ has. has);
  leaves = λ has leaves h. (
    leaves,
    h,
    record {
      before = refl;
      behind = sym (ap (λ (x : List Entry). x ++ joined_leaves (drop (c.args.place + 1) leaves)) (drop-length c.args.entries.now));
    },
  );
}

pub loop-rest-preserved : goal.loop-rest-preserved
loop-rest-preserved g c =
    let i = c.loop-rest.invariant in
    let e = c.in-Ok.ensures in
    let over : c.share_of-share.result < c.loop-rest.rest = c.loop-rest-test.true in
    let C0 = c.args.edit.now.next in
    let C1 = c.loop-rest.edit.next in
    let C2 = c.add_leaf.new.edit.next in
    let from = c.loop-rest.rest - c.share_of-share.result in
    let part = take (c.loop-rest.rest - from) (drop from c.args.entries.now) in
    record {
      some = omega (arith, over);
      within = omega (arith, i.within);
      base = e.alters.base ∙ i.base;
      live = e.alters.answer.1 ∙ sym e.alters.answer.0 ∙ i.live;
      place = omega (arith, i.place, e.count);
      in_use = subst (λ (x : ℕ). InUse C2 x) (sym (e.before c.args.place (omega arith))) (e.kept (slice_index c.loop-rest.index.pages c.args.place) i.in_use);
      few = omega (arith, i.few, e.count, over, c.share_of-share.ensures.some);
      shape = shape_then c.args.index.now c.loop-rest.index c.add_leaf.new.index C0 C1 C2 (λ has. has) i.shape.pages i.shape e.shape;
      leaves = λ has leaves h.
          let r = i.leaves has leaves h in
          let k = e.leaves (i.shape.pages has) r.0 r.1 in
          let n = length-leaves g.row.W C1 c.loop-rest.index r.0 r.1 in
          let s = spread_more c.args.place from c.loop-rest.rest c.args.entries.now part leaves r.0 r.2 (omega arith) (omega (arith, n, i.place)) refl in
          (insert r.0 (c.args.place + 1) part, k, s);
    }

pub returns-in-Ok-set_leaf-clause-shape : goal.returns-in-Ok-set_leaf-clause-shape
returns-in-Ok-set_leaf-clause-shape g c =
    let i = c.loop-rest.invariant in
    shape_then c.args.index.now c.loop-rest.index c.set_leaf.new.index c.args.edit.now.next c.loop-rest.edit.next
    c.set_leaf.new.edit.next (λ has. has) i.shape.pages i.shape c.in-Ok-set_leaf.ensures.shape

pub returns-in-Ok-set_leaf-clause-leaves : goal.returns-in-Ok-set_leaf-clause-leaves
returns-in-Ok-set_leaf-clause-leaves g c = λ has leaves h.
    let i = c.loop-rest.invariant in
    let r = i.leaves has leaves h in
    let k = c.in-Ok-set_leaf.ensures.leaves (i.shape.pages has) r.0 r.1 in
    let n = length-leaves g.row.W c.loop-rest.edit.next c.loop-rest.index r.0 r.1 in
    let d = spread_done c.args.place c.loop-rest.rest c.args.entries.now (take c.loop-rest.rest c.args.entries.now) leaves r.0 r.2
    (omega (arith, n, i.place)) refl in
    (set r.0 c.args.place (take c.loop-rest.rest c.args.entries.now), k, d)

pub returns-in-Err-clause-alters : goal.returns-in-Err-clause-alters
returns-in-Err-clause-alters g c =
    let i = c.loop-rest.invariant in
    let over : c.share_of-share.result < c.loop-rest.rest = c.loop-rest-test.true in
    record {
      base = c.in-Err.ensures.alters.base ∙ i.base;
      answer = fault_for c.in-Err.fault _ _ ⊥ ⊥ _ _ (λ full. omega (arith, full, i.shape.balance, i.few, over, c.share_of-share.ensures.some)) (λ z. z)
          (subst (λ (b : Bool). IsEditFault c.in-Err.fault (free_pages c.loop-rest.edit.next.used ≡ 0) ⊥ b c.add_leaf.new.edit.live) i.live
          c.in-Err.ensures.alters.answer);
    }
