use Rattle.std.proofs.Common.{◌≡◌, ℕ, ◌++◌, ◌∙◌, slice_index, rules, sym, ap, subst}
use Rattle.tune_pages.specs.Frame.{InUse, image_at}
use Rattle.index_keys.specs.Entries.{AllFit, IsRising, values_within}
use Rattle.tune_index.specs.Indexes.{Shape}
use Rattle.tune_index.specs.Leaves.{IsLeaf, leaf_in}
use Rattle.tune_index.proofs.EachPage.{each_of}
use Rattle.tune_index.proofs.Puts.{form_at}
use Rattle.tune_index.proofs.Ranges.{page_in_use, read_page}
use Rattle.tune_index.proofs.Slots.{leaf_fits_at, leaf_rises_at}
use Rattle.tune_index.proofs.candidates.add_leaf_values.Goals as goal

pub add_page_values-requires : goal.add_page_values-requires
add_page_values-requires g c =
    let s = c.args.edit.now.next in
    let ps = c.args.index.now.pages in
    let v : c.index.inside.pages.items ≡ c.args.index.now.pages = ap (λ (x : Shape). x.pages) c.index.view_is in
    let e : c.index-page.result.now ≡ slice_index c.args.index.now.pages c.args.place =
    read_page c.index.inside.pages.items c.args.index.now.pages c.args.place c.index-page.result.now v c.requires.place c.index-page.ensures in (
      search rules,
      (
        c.index.invariant.0,
        (
          (λ h. subst (λ (x : ℕ). InUse s x) (sym e) (page_in_use s ps c.args.place (each_of s ps (c.requires.pages h)) c.requires.place)),
          (λ h. subst (λ (x : ℕ). IsLeaf g.row.W (image_at s x)) (sym e) (form_at g.row.W s c.args.index.now.pages c.args.place (c.requires.index h).form
              c.requires.place)),
        ),
      ),
    )

pub returns-in-Ok-clause-values : goal.returns-in-Ok-clause-values
returns-in-Ok-clause-values g c = λ h.
    let W = g.row.W in
    let s = c.args.edit.now.next in
    let ps = c.args.index.now.pages in
    let i = c.args.place in
    let v : c.index.inside.pages.items ≡ ps = ap (λ (x : Shape). x.pages) c.index.view_is in
    let e : c.index-page.result.now ≡ slice_index ps i =
    read_page c.index.inside.pages.items ps i c.index-page.result.now v c.requires.place c.index-page.ensures in
    let is = c.requires.index (c.in-Ok.ensures.consults.looks.was_honest h) in
    let up : IsRising (leaf_in W (image_at s (slice_index ps i))) = leaf_rises_at W s ps i c.requires.place is.rising in
    let fit : AllFit W (leaf_in W (image_at s (slice_index ps i))) = leaf_fits_at W s ps i c.requires.place is.fit in
    let back = λ (x : ℕ). leaf_in W (image_at s x) in
    c.in-Ok.ensures.values h (subst (λ (x : ℕ). IsRising (back x)) (sym e) up) (subst (λ (x : ℕ). AllFit W (back x)) (sym e) fit)
    ∙ ap (λ (x : ℕ). c.args.values.now.items ++ values_within c.args.low.now c.args.high.now (back x)) e
