use Rattle.std.proofs.Common.{refl, rules, ℕ, ◌-◌, ◌<◌, length, sym, ◌∙◌, ap, arith, subst}
use Rattle.std.proofs.lemmas.List.Edits.{length-remove}
use Rattle.tune_pages.specs.Stand.{IsUsed}
use Rattle.tune_index.proofs.Changes.{shape_none, shape_then}
use Rattle.tune_index.proofs.EachPage.{each_of}
use Rattle.tune_index.proofs.Ranges.{page_in_use}
use Rattle.tune_index.proofs.clearing.drop_leaves.Goals.{then-page-eq0-via-then-page-eq0, then-page-eq0-via-else-page-eq0+then-not-in_use}
use Rattle.tune_index.proofs.clearing.drop_leaves.Goals as goal

pub loop-rest-init : goal.loop-rest-init
loop-rest-init g c = record {
  count = sym c.leaf_count-rest.ensures.count;
  heads = sym c.leaf_count-rest.ensures.heads;
  base = refl;
  live = search rules;
  shape = shape_none c.args.index.now c.args.edit.now.next (λ has. has);
}

pub loop-rest-preserved : goal.loop-rest-preserved
loop-rest-preserved g c =
    let i = c.loop-rest.invariant in
    let e = c.in-Ok.ensures in
    let more : 0 < c.loop-rest.rest = (let test = c.loop-rest-test.true in omega (arith, test)) in
    let was = c.loop-rest.index in
    let is = c.drop_leaf.new.index in
    let place = c.loop-rest.rest - 1 in
    let C0 = c.args.edit.now.next in
    let C1 = c.loop-rest.edit.next in
    let C2 = c.drop_leaf.new.edit.next in
    let pages = ap length e.gone.0 in
    let heads = ap length e.gone.1 in
    let page_less = length-remove was.pages place (omega (arith, i.count, more)) in
    let head_less = length-remove was.heads place (omega (arith, i.heads, more)) in
    record {
      count = omega (arith, pages, page_less, i.count, more);
      heads = omega (arith, heads, head_less, i.heads, more);
      base = e.alters.base ∙ i.base;
      live = e.alters.answer.1;
      shape = shape_then c.args.index.now was is C0 C1 C2 (λ has. has) i.shape.pages i.shape e.shape;
    }

pub returns-then-page-eq0-clause-all : goal.returns-then-page-eq0-clause-all
returns-then-page-eq0-clause-all g c = λ has.
    let i = c.loop-rest.invariant in
    let more : 0 < c.loop-rest.rest = (let test = c.loop-rest-test.true in omega (arith, test)) in
    let all = c.loop-rest.edit.next in
    let pages = c.loop-rest.index.pages in
    let place = c.loop-rest.rest - 1 in
    let e = c.leaf_page-page.ensures.page in
    let its = page_in_use all pages place (each_of all pages (i.shape.pages has)) (omega (arith, i.count, more)) in
    let used : IsUsed all.used c.leaf_page-page.result = subst (λ (x : ℕ). IsUsed all.used x) (sym e) its.flag in
    elim c.then-page-eq0.branch [
      | then-page-eq0-via-then-page-eq0 w ↦ absurd (its.not_root (sym e ∙ w.if-page-eq0.true))
      | then-page-eq0-via-else-page-eq0+then-not-in_use w ↦ let yes = w.in_use.ensures.1 (i.live, used) in let no = w.if-not-in_use.true in cc
    ]
