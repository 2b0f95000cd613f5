use Rattle.std.proofs.Common.{◌≡◌, ◌⊎◌, ℕ, ◌<◌, ◌≤◌, ◌++◌, List, [], Ok, drop, length, slice_index, rules, sym, ap, ◌∙◌, subst}
use Rattle.tune_pages.specs.Frame.{image_at}
use Rattle.tune_pages.specs.Stand.{Stand}
use Rattle.tune_pages.proofs.Edits.{consults_next, consults_none, consulted}
use Rattle.index_keys.specs.Entries.{Entry, IsRising, rank, values_within}
use Rattle.tune_index.specs.Indexes.{HasPages, IsIndex, entries_of}
use Rattle.tune_index.specs.Leaves.{leaf_in, slice_entry}
use Rattle.tune_index.proofs.Ranges.{values_more}
use Rattle.tune_index.proofs.Splits.{heads_rise}
use Rattle.tune_index.proofs.Within.{none_before, none_behind, values_until}
use Rattle.tune_index.proofs.index.Index.candidates.Goals as goal

pub add_leaf_values-requires : goal.add_leaf_values-requires
add_leaf_values-requires g c =
    let i = c.loop-place.invariant in
    let s0 = c.args.edit.now.next in
    let same = i.consults.stand in
    let here : c.loop-place.place < length c.args.self.now.pages = search rules in (
      search rules,
      (
        search rules,
        (
          (λ h. subst (λ (s : Stand). HasPages s c.args.self.now.pages) (sym (same.same h)) (c.requires.pages (i.consults.looks.was_honest h))),
          ((λ h. subst (λ (s : Stand). IsIndex g.row.W s c.args.self.now) (sym (same.same h)) (c.requires.index (i.consults.looks.was_honest h))), here),
        ),
      ),
    )

-- the leaves before the first one have no entry of the range
pub loop-place-init : goal.loop-place-init
loop-place-init g c = record {
  consults = consults_none g.D.Disk tt c.args.edit.now (search rules);
  so_far = λ h.
      let s = c.args.edit.now.next in
      let is = c.requires.index h in
      let heads : IsRising c.args.self.now.heads = subst (λ (x : List Entry). IsRising x) (sym is.heads)
      (heads_rise g.row.W 0 s c.args.self.now.pages is.form is.rising) in
      let from = subst (λ (x : List Entry). (c.leaf_for-start.result ≡ 0) ⊎ (rank (slice_entry x c.leaf_for-start.result) ≤ rank (c.args.low.now, 0))) is.heads
      (c.leaf_for-start.ensures.belongs heads).from in
      let empty : c.new-values.result.items ≡ [] = search rules in
      empty ∙ sym (none_before g.row.W c.args.low.now c.args.high.now 0 c.leaf_for-start.result s c.args.self.now.pages is.form is.rising
      c.leaf_for-start.ensures.place from);
}

pub loop-place-preserved : goal.loop-place-preserved
loop-place-preserved g c =
    let i = c.loop-place.invariant in
    let call = c.in-Ok.ensures in
    let W = g.row.W in
    let low = c.args.low.now in
    let high = c.args.high.now in
    let pages = c.args.self.now.pages in
    let s0 = c.args.edit.now.next in
    let n : c.loop-place.place < length pages = search rules in
    record {
      consults = consults_next g.D.Disk tt (Ok tt) c.args.edit.now c.loop-place.edit c.add_leaf_values.new.edit i.consults call.consults;
      so_far = λ h.
          let now = call.consults.looks.was_honest h in
          let is = i.consults.stand.same now in
          let v = subst (λ (s : Stand). c.add_leaf_values.new.values.items ≡ c.loop-place.values.items
          ++ values_within low high (leaf_in W (image_at s (slice_index pages c.loop-place.place)))) is (call.values h) in
          v ∙ ap (λ (x : List ℕ). x ++ values_within low high (leaf_in W (image_at s0 (slice_index pages c.loop-place.place)))) (i.so_far now)
          ∙ sym (values_more W low high c.loop-place.place s0 pages n);
    }

pub returns-clause-consults : goal.returns-clause-consults
returns-clause-consults g c = consulted g.D.Disk _ _ _ _ c.loop-place.invariant.consults

pub returns-then-begins_above-clause-consults : goal.returns-then-begins_above-clause-consults
returns-then-begins_above-clause-consults g c = consulted g.D.Disk _ _ _ _ c.loop-place.invariant.consults

pub returns-then-begins_above-clause-values : goal.returns-then-begins_above-clause-values
returns-then-begins_above-clause-values g c = λ h.
    let i = c.loop-place.invariant in
    let W = g.row.W in
    let low = c.args.low.now in
    let high = c.args.high.now in
    let place = c.loop-place.place in
    let pages = c.args.self.now.pages in
    let s = c.args.edit.now.next in
    let is = c.requires.index (i.consults.looks.was_honest h) in
    let n : place < length pages = search rules in
    let past = subst (λ (x : List Entry). rank (high, 0) < rank ((slice_entry x place).0, 0)) is.heads (c.begins_above.ensures.0 c.if-begins_above.true) in
    let none : values_within low high (entries_of W s (drop place pages)) ≡ [] = none_behind W low high 0 place s pages is.form is.rising is.fit n past in
    i.so_far h ∙ sym (values_until W low high place s pages none)
