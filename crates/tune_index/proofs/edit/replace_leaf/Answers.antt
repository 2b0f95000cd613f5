use Rattle.std.proofs.Common.{◌≡◌, ℕ, slice_index, sym, ap, subst}
use Rattle.tune_pages.specs.Frame.{InUse}
use Rattle.tune_index.specs.Indexes.{Shape}
use Rattle.tune_index.proofs.Ranges.{read_page}
use Rattle.tune_index.proofs.edit.replace_leaf.Goals as goal

pub put_leaf-requires-clause-in_use : goal.put_leaf-requires-clause-in_use
put_leaf-requires-clause-in_use g c =
    let s = c.args.edit.now.next in
    let v : c.index.inside.pages.items ≡ c.args.index.now.pages = ap (λ (x : Shape). x.pages) c.index.view_is in
    let e : c.index-page.result.now ≡ slice_index c.args.index.now.pages c.args.place =
    read_page c.index.inside.pages.items c.args.index.now.pages c.args.place c.index-page.result.now v c.requires.place c.index-page.ensures in
    subst (λ (x : ℕ). InUse s x) (sym e) c.requires.in_use
