use Rattle.std.proofs.Common.{ℕ, ◌+◌, ◌++◌, List, length, take, drop, arith, subst, sym, ap, ◌∙◌, Ok, Err}
use Rattle.tune_pages.specs.Faults.{free_pages}
use Rattle.tune_pages.specs.Frame.{InUse, image_at}
use Rattle.tune_pages.specs.Stand.{Stand}
use Rattle.tune_pages.proofs.Edits.{alters_edits, alters_fuller, honest_before, edits_next, consults_edits}
use Rattle.index_keys.specs.Entries.{Entry, IsRising, inserted_all}
use Rattle.tune_index.specs.Indexes.{HasPages}
use Rattle.tune_index.specs.Inside.LeafLists.{HasLeaves, joined_leaves}
use Rattle.tune_index.specs.Leaves.{IsLeaf}
use Rattle.tune_index.proofs.EachPage.{each_of}
use Rattle.tune_index.proofs.Puts.{form_at}
use Rattle.tune_index.proofs.Ranges.{page_in_use}
use Rattle.tune_index.proofs.Runs.{read_leaf_at}
use Rattle.tune_index.proofs.insert.insert_part.Goals as goal

pub read_page_leaf-requires-clause-in_use : goal.read_page_leaf-requires-clause-in_use
read_page_leaf-requires-clause-in_use g c = λ h.
    let s = c.args.edit.now.next in
    let ps = c.args.index.now.pages in
    subst (λ (x : ℕ). InUse s x) (sym c.leaf_page-page.ensures.page)
    (page_in_use s ps c.args.place (each_of s ps (c.requires.pages h)) c.requires.place)

pub read_page_leaf-requires-clause-form : goal.read_page_leaf-requires-clause-form
read_page_leaf-requires-clause-form g c = λ h.
    let s = c.args.edit.now.next in
    let ps = c.args.index.now.pages in
    subst (λ (x : ℕ). IsLeaf g.row.W (image_at s x)) (sym c.leaf_page-page.ensures.page)
    (form_at g.row.W s ps c.args.place (c.requires.form h) c.requires.place)

pub returns-in-Ok-insert_in_leaf-clause-leaves : goal.returns-in-Ok-insert_in_leaf-clause-leaves
returns-in-Ok-insert_in_leaf-clause-leaves g c = λ behind leaves h up.
    let honest = honest_before g.D.Disk.honest c.read_page_leaf.new.edit c.insert_in_leaf.new.edit c.in-Ok-insert_in_leaf.ensures.alters.base behind in
    let s0 = c.args.edit.now.next in
    let s1 = c.read_page_leaf.new.edit.next in
    let pages = c.args.index.now.pages in
    let call = c.in-Ok.ensures in
    let read = read_leaf_at g.row.W s0 c.args.index.now leaves c.args.place c.leaf_page-page.result c.read_page_leaf.new.image.bytes c.requires.place
    c.leaf_page-page.ensures.page (call.leaf honest) h in
    let has = subst (λ (x : Stand). HasPages x pages) (sym (call.consults.stand.same honest)) (c.requires.pages (call.consults.looks.was_honest honest)) in
    let h1 : HasLeaves g.row.W s1 c.args.index.now leaves =
    subst (λ (x : Stand). HasLeaves g.row.W x c.args.index.now leaves) (sym (call.consults.stand.same honest)) h in
    let d = c.in-Ok-insert_in_leaf.ensures.leaves has (subst (λ (x : List Entry). IsRising x) (sym read) up) leaves h1 in (
      d.0,
      d.1,
      d.2 ∙ ap (λ (x : List Entry). joined_leaves (take c.args.place leaves)
          ++ (inserted_all c.args.part.now x ++ joined_leaves (drop (c.args.place + 1) leaves))) read,
    )

pub returns-in-Err-insert_in_leaf-clause-edits : goal.returns-in-Err-insert_in_leaf-clause-edits
returns-in-Err-insert_in_leaf-clause-edits g c =
    let s0 = c.args.edit.now.next in
    let call = c.in-Ok.ensures in
    edits_next g.D.Disk c.in-Ok.field-0 (Err c.in-Err-insert_in_leaf.fault) ⊥ _ _ _ _ (consults_edits g.D.Disk (Ok c.in-Ok.field-0) ⊥ _ _ call.consults)
    (alters_edits g.D.Disk (Err c.in-Err-insert_in_leaf.fault) _ _ _ (alters_fuller (Err c.in-Err-insert_in_leaf.fault) _ _ _ _
    (λ full behind leaves h up.
    let honest = honest_before g.D.Disk.honest c.read_page_leaf.new.edit c.insert_in_leaf.new.edit c.in-Err-insert_in_leaf.ensures.alters.base behind in
    let read = read_leaf_at g.row.W s0 c.args.index.now leaves c.args.place c.leaf_page-page.result c.read_page_leaf.new.image.bytes c.requires.place
    c.leaf_page-page.ensures.page (call.leaf honest) h in
    let more = full (subst (λ (x : List Entry). IsRising x) (sym read) up) in
    let size = ap (λ (x : List Entry). length (inserted_all c.args.part.now x)) read in
    let free = ap free_pages call.consults.stand.used in
    omega (arith, more, size, free)) c.in-Err-insert_in_leaf.ensures.alters))
