use Rattle.std.proofs.Common.{rules, ℕ, ◌+◌, Bool, List, length, slice_index, sym, ap, subst, ◌∙◌}
use Rattle.tune_pages.specs.Faults.{free_pages}
use Rattle.tune_pages.specs.Frame.{image_at, TradesPages}
use Rattle.tune_index.specs.Indexes.{HasPages}
use Rattle.tune_index.specs.Leaves.{leaf_in}
use Rattle.tune_index.proofs.EachPage.{each_of, all_of}
use Rattle.tune_index.proofs.Puts.{put_pages}
use Rattle.tune_index.proofs.LeafLists.{leaves_set, set_trades}
use Rattle.tune_index.proofs.edit.set_image.Goals as goal

pub returns-clause-shape : goal.returns-clause-shape
returns-clause-shape g c =
    let old = c.args.edit.now.next in
    let new = c.replace_leaf.new.edit.next in
    let ps = c.args.index.now.pages in
    let p = slice_index ps c.args.place in
    let e = c.in_ok-replace_leaf.ensures in
    let used = ap (λ (m : List Bool). free_pages m + length ps) (sym e.used) in
    let count = ap (λ (x : List ℕ). free_pages new.used + length x) (sym e.pages) in
    record {
      list = search rules;
      pages = λ has. subst (λ (x : List ℕ). HasPages new x) (sym e.pages)
          (all_of new ps (put_pages old new p (image_at new p) ps e.puts (each_of old ps has)));
      trades = λ has. subst (λ (x : List ℕ). TradesPages ps x old new) (sym e.pages)
          (set_trades old new ps c.args.place (image_at new p) c.requires.place e.puts);
      balance = used ∙ count;
    }

pub returns-clause-leaves : goal.returns-clause-leaves
returns-clause-leaves g c = λ has leaves h.
    let old = c.args.edit.now.next in
    let new = c.replace_leaf.new.edit.next in
    let p = slice_index c.args.index.now.pages c.args.place in
    let e = c.in_ok-replace_leaf.ensures in
    leaves_set g.row.W old new c.args.index.now c.replace_leaf.new.index leaves c.args.place (leaf_in g.row.W c.args.image.now.bytes) (image_at new p)
    (each_of old c.args.index.now.pages has) c.requires.place e.puts e.form e.leaf e.pages e.heads h
