use Rattle.std.proofs.Common.{ℕ, ◌+◌, ◌++◌, List, [], take, drop, arith, subst, sym, ap, ◌∙◌}
use Rattle.std.specs.Prelude.{slice_index_or, slice_set}
use Rattle.std.specs.List.{remove}
use Rattle.tune_pages.specs.Frame.{InUse, image_at}
use Rattle.tune_pages.specs.Stand.{Stand}
use Rattle.tune_pages.proofs.Edits.{honest_before}
use Rattle.index_keys.specs.Entries.{Entry, IsRising, removed}
use Rattle.tune_index.specs.Indexes.{HasPages}
use Rattle.tune_index.specs.Inside.LeafLists.{HasLeaves, joined_leaves}
use Rattle.tune_index.specs.Leaves.{leaf_in, IsLeaf}
use Rattle.tune_index.proofs.EachPage.{each_of}
use Rattle.tune_index.proofs.LeafLists.{joined_set, length-leaves}
use Rattle.tune_index.proofs.Puts.{form_at}
use Rattle.tune_index.proofs.Ranges.{page_in_use}
use Rattle.tune_index.proofs.Runs.{drop_done, read_leaf_at}
use Rattle.tune_index.proofs.insert.remove_at.Goals as goal

pub read_page_leaf-requires-clause-in_use : goal.read_page_leaf-requires-clause-in_use
read_page_leaf-requires-clause-in_use g c = λ h.
    let s = c.args.edit.now.next in
    let ps = c.args.index.now.pages in
    subst (λ (x : ℕ). InUse s x) (sym c.leaf_page-page.ensures.page)
    (page_in_use s ps c.args.place (each_of s ps (c.requires.pages h)) c.requires.place)

pub read_page_leaf-requires-clause-form : goal.read_page_leaf-requires-clause-form
read_page_leaf-requires-clause-form g c = λ h.
    let s = c.args.edit.now.next in
    let ps = c.args.index.now.pages in
    subst (λ (x : ℕ). IsLeaf g.row.W (image_at s x)) (sym c.leaf_page-page.ensures.page)
    (form_at g.row.W s ps c.args.place (c.requires.form h) c.requires.place)

pub returns-in-Ok-set_image-clause-leaves : goal.returns-in-Ok-set_image-clause-leaves
returns-in-Ok-set_image-clause-leaves g c = λ behind leaves h up.
    let honest = honest_before g.D.Disk.honest c.read_page_leaf.new.edit c.set_image.new.edit c.in-Ok-set_image.ensures.alters.base behind in
    let s0 = c.args.edit.now.next in
    let s1 = c.read_page_leaf.new.edit.next in
    let e : Entry = (c.args.key.now, c.args.value) in
    let call = c.in-Ok.ensures in
    let read = read_leaf_at g.row.W s0 c.args.index.now leaves c.args.place c.leaf_page-page.result c.read_page_leaf.new.image.bytes c.requires.place
    c.leaf_page-page.ensures.page (call.leaf honest) h in
    let rises = subst (λ (x : List Entry). IsRising x) (sym read) up in
    let has = subst (λ (x : Stand). HasPages x c.args.index.now.pages) (sym (call.consults.stand.same honest))
    (c.requires.pages (call.consults.looks.was_honest honest)) in
    let h1 : HasLeaves g.row.W s1 c.args.index.now leaves =
    subst (λ (x : Stand). HasLeaves g.row.W x c.args.index.now leaves) (sym (call.consults.stand.same honest)) h in
    let leaf = leaf_in g.row.W c.remove_in_image.new.image.bytes in
    let made = c.remove_in_image.ensures.entries c.if-remove_in_image.true rises ∙ ap (removed e) read in
    let n = length-leaves g.row.W s0 c.args.index.now leaves h in (
      slice_set leaves c.args.place leaf,
      c.in-Ok-set_image.ensures.leaves has leaves h1,
      joined_set leaves c.args.place leaf (omega (arith, n, c.requires.place))
          ∙ ap (λ (x : List Entry). joined_leaves (take c.args.place leaves) ++ (x ++ joined_leaves (drop (c.args.place + 1) leaves))) made,
    )

pub returns-in-Ok-drop_leaf-clause-leaves : goal.returns-in-Ok-drop_leaf-clause-leaves
returns-in-Ok-drop_leaf-clause-leaves g c = λ behind leaves h up.
    let honest = honest_before g.D.Disk.honest c.read_page_leaf.new.edit c.drop_leaf.new.edit c.in-Ok-drop_leaf.ensures.alters.base behind in
    let s0 = c.args.edit.now.next in
    let s1 = c.read_page_leaf.new.edit.next in
    let e : Entry = (c.args.key.now, c.args.value) in
    let call = c.in-Ok.ensures in
    let read = read_leaf_at g.row.W s0 c.args.index.now leaves c.args.place c.leaf_page-page.result c.read_page_leaf.new.image.bytes c.requires.place
    c.leaf_page-page.ensures.page (call.leaf honest) h in
    let rises = subst (λ (x : List Entry). IsRising x) (sym read) up in
    let has = subst (λ (x : Stand). HasPages x c.args.index.now.pages) (sym (call.consults.stand.same honest))
    (c.requires.pages (call.consults.looks.was_honest honest)) in
    let h1 : HasLeaves g.row.W s1 c.args.index.now leaves =
    subst (λ (x : Stand). HasLeaves g.row.W x c.args.index.now leaves) (sym (call.consults.stand.same honest)) h in
    let none = sym (ap (removed e) read) ∙ c.remove_in_image.ensures.none c.if-remove_in_image.false rises in (
      remove leaves c.args.place,
      c.in-Ok-drop_leaf.ensures.leaves has leaves h1,
      drop_done leaves c.args.place (removed e (slice_index_or leaves c.args.place [])) none,
    )
