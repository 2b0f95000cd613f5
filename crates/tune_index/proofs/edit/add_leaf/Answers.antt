use Rattle.std.proofs.Common.{◌≡◌, ℕ, ◌≤◌, true, List, length, get_or, set, slice_index, sym, subst, arith, ap, ◌∙◌}
use Rattle.std.proofs.lemmas.List.{get_or_default}
use Rattle.std.proofs.lemmas.List.Edits.{get_or-insert_below, length-insert}
use Rattle.std.specs.List.{insert}
use Rattle.tune_journal.specs.FileOffsets.{most_pages}
use Rattle.tune_pages.specs.Faults.{free_pages}
use Rattle.tune_pages.specs.Frame.{Allocates, image_at}
use Rattle.tune_pages.specs.Stand.{Stand}
use Rattle.tune_pages.proofs.Edits.{fault_for}
use Rattle.tune_pages.proofs.Counting.{full_none, taken_less}
use Rattle.index_keys.specs.Entries.{Entry}
use Rattle.tune_index.specs.Leaves.{slice_entry}
use Rattle.tune_index.proofs.EachPage.{each_of, all_of}
use Rattle.tune_index.proofs.Changes.{allocates_by}
use Rattle.tune_index.proofs.LeafLists.{leaves_added, add_pages, add_trades, kept_by_add}
use Rattle.tune_index.proofs.edit.add_leaf.Goals as goal

-- the entry that was copied is the first one of the leaf
first_is : (leaf : List Entry) (e : Entry) → 1 ≤ length leaf → e ≡ get_or leaf 0 e → e ≡ slice_entry leaf 0
first_is leaf e l is = is ∙ get_or_default leaf 0 e (0, 0) (omega arith)

pub returns-in-Ok-list_leaf-clause-shape : goal.returns-in-Ok-list_leaf-clause-shape
returns-in-Ok-list_leaf-clause-shape g c =
    let old = c.args.edit.now.next in
    let mid = c.allocate.new.self.next in
    let new = c.write_page_leaf.new.edit.next in
    let was = c.args.index.now.pages in
    let is = c.list_leaf.new.index.pages in
    let place = c.args.place in
    let page = c.in-Ok.page in
    let got = c.in-Ok.ensures in
    let puts = c.in-Ok-write_page_leaf.ensures.puts in
    let listed = c.in-Ok-list_leaf.ensures.pages in
    let al : Allocates old mid page = allocates_by old mid page most_pages got.least got.within got.next in
    let less = taken_less old.used page got.least.free in
    let same : free_pages new.used ≡ free_pages (set old.used page true) =
    ap free_pages c.in-Ok-write_page_leaf.ensures.used ∙ ap (λ (s : Stand). free_pages s.used) got.next in
    let more : length is ≡ length (insert was place page) = ap length listed in
    let count = length-insert was place page c.requires.place in
    record {
      list = c.in-Ok-list_leaf.ensures.list;
      pages = λ has. all_of new is (add_pages old mid new was is place page (image_at new page) (each_of old was has) al puts listed);
      trades = λ has. add_trades old mid new was is place page (image_at new page) (each_of old was has) al puts listed;
      balance = omega (arith, less, same, more, count);
    }

pub returns-in-Ok-list_leaf-clause-leaves : goal.returns-in-Ok-list_leaf-clause-leaves
returns-in-Ok-list_leaf-clause-leaves g c = λ has leaves h.
    let old = c.args.edit.now.next in
    let mid = c.allocate.new.self.next in
    let new = c.write_page_leaf.new.edit.next in
    let page = c.in-Ok.page in
    let got = c.in-Ok.ensures in
    let put = c.in-Ok-write_page_leaf.ensures in
    let al : Allocates old mid page = allocates_by old mid page most_pages got.least got.within got.next in
    let f : c.index-leaf-0.result ≡ slice_entry c.args.leaf.now 0 = first_is c.args.leaf.now c.index-leaf-0.result c.requires.some c.index-leaf-0.is in
    let k : c.copy.result ≡ c.index-leaf-0.result.0 = c.copy.ensures in
    let heads : c.list_leaf.new.index.heads ≡ insert c.args.index.now.heads c.args.place (slice_entry c.args.leaf.now 0) =
    c.in-Ok-list_leaf.ensures.heads ∙ ap (λ (x : ℕ). insert c.args.index.now.heads c.args.place (x, c.index-leaf-0.result.1)) k
    ∙ ap (λ (x : Entry). insert c.args.index.now.heads c.args.place x) f in
    leaves_added g.row.W old mid new c.args.index.now c.list_leaf.new.index leaves c.args.place page c.args.leaf.now (image_at new page)
    (each_of old c.args.index.now.pages has) al
    put.puts put.form put.leaf c.in-Ok-list_leaf.ensures.pages heads h

pub returns-in-Ok-list_leaf-clause-before : goal.returns-in-Ok-list_leaf-clause-before
returns-in-Ok-list_leaf-clause-before g c = λ other lt.
    subst (λ (x : List ℕ). slice_index x other ≡ slice_index c.args.index.now.pages other) (sym c.in-Ok-list_leaf.ensures.pages)
    (get_or-insert_below c.args.index.now.pages c.args.place c.in-Ok.page 0 other lt c.requires.place)

pub returns-in-Ok-list_leaf-clause-kept : goal.returns-in-Ok-list_leaf-clause-kept
returns-in-Ok-list_leaf-clause-kept g c = λ q used.
    let old = c.args.edit.now.next in
    let mid = c.allocate.new.self.next in
    let new = c.write_page_leaf.new.edit.next in
    let page = c.in-Ok.page in
    let got = c.in-Ok.ensures in
    let al : Allocates old mid page = allocates_by old mid page most_pages got.least got.within got.next in
    kept_by_add old mid new page (image_at new page) q al c.in-Ok-write_page_leaf.ensures.puts used

pub returns-in-Err-clause-alters : goal.returns-in-Err-clause-alters
returns-in-Err-clause-alters g c = record {
  base = c.in-Err.ensures.alters.base;
  answer = fault_for c.in-Err.fault _ _ ⊥ ⊥ _ _ (λ full. full_none c.args.edit.now.next.used full) (λ z. z) c.in-Err.ensures.alters.answer;
}
