use Rattle.std.proofs.Common.{◌≡◌, ◌≤◌, ◌<◌, ◌++◌, ℕ, List, [], ◌∷◌, length, take, drop, append-nil, sym, ◌∙◌, subst, arith, rules}
use Rattle.std.specs.List.{insert}
use Rattle.tune_pages.specs.Stand.{Stand}
use Rattle.tune_pages.proofs.Edits.{fault_behind, fault_for}
use Rattle.index_keys.specs.Entries.{Entry}
use Rattle.tune_index.specs.Indexes.{HasPages}
use Rattle.tune_index.specs.Inside.LeafLists.{joined_leaves, leaves_of}
use Rattle.tune_index.proofs.Changes.{shape_none, shape_then}
use Rattle.tune_index.proofs.EachPage.{each_of}
use Rattle.tune_index.proofs.LeafLists.{leaves_of_index}
use Rattle.tune_index.proofs.Ranges.{page_in_use}
use Rattle.tune_index.proofs.Runs.{first_leaves, none_at_all}
use Rattle.tune_index.proofs.insert.insert_first.Goals as goal

pub returns-then-leaves-gt0-clause-shape : goal.returns-then-leaves-gt0-clause-shape
returns-then-leaves-gt0-clause-shape g c = shape_none c.args.index.now c.args.edit.now.next (λ has. has)

-- there is no leaf
none_has : (s : Stand) (ps : List ℕ) → length ps ≤ 0 → HasPages s ps
none_has s ps l = subst (λ (x : List ℕ). HasPages s x) (sym (none_at_all ps l)) (tt, tt)

-- the entries that took the place of the only leaf are all
only_leaf : (s : Stand) (width : ℕ) (ps : List ℕ) (leaf run all : List Entry) → length ps ≤ 0
    → all ≡ joined_leaves (take 0 (insert (leaves_of width s ps) 0 leaf)) ++ (run ++ joined_leaves (drop 1 (insert (leaves_of width s ps) 0 leaf)))
    → all ≡ run
only_leaf s width [] leaf run all l e = e ∙ append-nil run
only_leaf s width (p ∷ ps) leaf run all l e = absurd (omega arith)

pub spread-requires : goal.spread-requires
spread-requires g c =
    let s0 = c.args.edit.now.next in
    let s1 = c.add_leaf.new.edit.next in
    let none : length c.args.index.now.pages ≤ 0 = omega (arith, c.leaf_count-leaves.ensures.count, c.if-leaves-gt0.false) in
    let has = c.in-Ok.ensures.shape.pages (none_has s0 c.args.index.now.pages none) in
    let place : 0 < length c.add_leaf.new.index.pages = omega (arith, c.in-Ok.ensures.count) in (
      search rules,
      (
        search rules,
        (
          place,
          (
            page_in_use s1 c.add_leaf.new.index.pages 0 (each_of s1 c.add_leaf.new.index.pages has) place,
            c.requires.some,
          ),
        ),
      ),
    )

pub returns-in-Ok-spread-clause-shape : goal.returns-in-Ok-spread-clause-shape
returns-in-Ok-spread-clause-shape g c =
    shape_then c.args.index.now c.add_leaf.new.index c.spread.new.index c.args.edit.now.next c.add_leaf.new.edit.next
    c.spread.new.edit.next (λ has. has) c.in-Ok.ensures.shape.pages c.in-Ok.ensures.shape c.in-Ok-spread.ensures.shape

pub returns-in-Ok-spread-clause-entries : goal.returns-in-Ok-spread-clause-entries
returns-in-Ok-spread-clause-entries g c = λ ix.
    let s0 = c.args.edit.now.next in
    let was = c.args.index.now in
    let none : length was.pages ≤ 0 = omega (arith, c.leaf_count-leaves.ensures.count, c.if-leaves-gt0.false) in
    let has0 = none_has s0 was.pages none in
    let one = c.in-Ok.ensures.leaves has0 (leaves_of g.row.W s0 was.pages) (leaves_of_index g.row.W s0 was ix) in
    let all = c.in-Ok-spread.ensures.leaves (c.in-Ok.ensures.shape.pages has0) _ one in
    first_leaves g.row.W s0 c.spread.new.edit.next was c.spread.new.index c.args.run.now all.0 c.requires.rising c.check_run.ensures none
    all.1 (only_leaf s0 g.row.W was.pages (take 1 c.args.run.now) c.args.run.now (joined_leaves all.0) none all.2)

pub returns-in-Err-clause-alters : goal.returns-in-Err-clause-alters
returns-in-Err-clause-alters g c =
    let none : length c.args.index.now.pages ≡ 0 = omega (arith, c.leaf_count-leaves.ensures.count, c.if-leaves-gt0.false) in
    record {
      base = c.in-Err.ensures.alters.base;
      answer = fault_for c.in-Err.fault _ _ ⊥ ⊥ _ _ (λ full. (none, omega (arith, full, c.requires.some))) (λ z. z) c.in-Err.ensures.alters.answer;
    }

pub returns-in-Err-spread-clause-alters : goal.returns-in-Err-spread-clause-alters
returns-in-Err-spread-clause-alters g c =
    let none : length c.args.index.now.pages ≡ 0 = omega (arith, c.leaf_count-leaves.ensures.count, c.if-leaves-gt0.false) in
    let more = c.in-Ok.ensures.shape.balance in
    record {
      base = c.in-Err-spread.ensures.alters.base ∙ c.in-Ok.ensures.alters.base;
      answer = fault_behind c.in-Err-spread.fault _ _ ⊥ ⊥ _ _ _ c.in-Ok.ensures.alters.answer
          (λ full. (none, omega (arith, full, none, more, c.in-Ok.ensures.count))) (λ z. z) c.in-Err-spread.ensures.alters.answer;
    }
