use Rattle.std.proofs.Common.{◌≡◌, ◌≢◌, ℕ, [], ◌∷◌, false, length, set, slice_index, arith, sym, ap, ◌∙◌, subst}
use Rattle.std.proofs.lemmas.List.Edits.{length-remove}
use Rattle.std.specs.List.{remove}
use Rattle.tune_pages.specs.Faults.{free_pages}
use Rattle.tune_pages.proofs.FreePages.{freed_more}
use Rattle.tune_pages.specs.Frame.{Frees}
use Rattle.tune_pages.specs.Stand.{IsUsed, Stand}
use Rattle.tune_index.proofs.Changes.{frees_by}
use Rattle.tune_index.proofs.EachPage.{each_of, all_of}
use Rattle.tune_index.proofs.LeafLists.{leaves_dropped, drop_pages, drop_trades}
use Rattle.tune_index.proofs.edit.drop_leaf.Goals as goal

pub free-requires-clause-used : goal.free-requires-clause-used
free-requires-clause-used g c =
    let s = c.args.edit.now.next in
    let u = c.requires.in_use in
    subst (λ (x : ℕ). IsUsed s.used x) (sym c.leaf_page-page.ensures.page) u.flag

pub free-requires-clause-root : goal.free-requires-clause-root
free-requires-clause-root g c =
    let s = c.args.edit.now.next in
    let u = c.requires.in_use in
    let ne : c.leaf_page-page.result ≢ 0 = λ z. u.not_root (sym c.leaf_page-page.ensures.page ∙ z) in
    omega (arith, ne)

pub returns-in-Ok-unlist_leaf-clause-shape : goal.returns-in-Ok-unlist_leaf-clause-shape
returns-in-Ok-unlist_leaf-clause-shape g c =
    let old = c.args.edit.now.next in
    let new = c.free.new.self.next in
    let was = c.args.index.now.pages in
    let is = c.unlist_leaf.new.index.pages in
    let place = c.args.place in
    let page = c.leaf_page-page.result in
    let gone = c.in-Ok-unlist_leaf.ensures.pages in
    let f : Frees old new (slice_index was place) =
    subst (λ (x : ℕ). Frees old new x) c.leaf_page-page.ensures.page (frees_by old new page c.in-Ok.ensures.next) in
    let used : IsUsed old.used page = subst (λ (x : ℕ). IsUsed old.used x) (sym c.leaf_page-page.ensures.page) c.requires.in_use.flag in
    let more = freed_more (page ∷ []) old.used (used, tt) in
    let same : free_pages new.used ≡ free_pages (set old.used page false) = ap (λ (s : Stand). free_pages s.used) c.in-Ok.ensures.next in
    let fewer : length is ≡ length (remove was place) = ap length gone in
    let count = length-remove was place c.requires.place in
    record {
      list = c.in-Ok-unlist_leaf.ensures.list;
      pages = λ has. all_of new is (drop_pages old new was is place (each_of old was has) c.requires.place f gone);
      trades = λ has. drop_trades old new was is place c.requires.place f gone;
      balance = omega (arith, more, same, fewer, count);
    }

pub returns-in-Ok-unlist_leaf-clause-leaves : goal.returns-in-Ok-unlist_leaf-clause-leaves
returns-in-Ok-unlist_leaf-clause-leaves g c = λ has leaves h.
    let old = c.args.edit.now.next in
    let new = c.free.new.self.next in
    let f : Frees old new (slice_index c.args.index.now.pages c.args.place) =
    subst (λ (x : ℕ). Frees old new x) c.leaf_page-page.ensures.page (frees_by old new c.leaf_page-page.result c.in-Ok.ensures.next) in
    leaves_dropped g.row.W old new c.args.index.now c.unlist_leaf.new.index leaves c.args.place (each_of old c.args.index.now.pages has) c.requires.place f
    c.in-Ok-unlist_leaf.ensures.pages
    c.in-Ok-unlist_leaf.ensures.heads h
