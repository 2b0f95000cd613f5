use Rattle.std.proofs.Common.{ℕ, rules, sym, subst}
use Rattle.tune_index.specs.ListedLeaves.{StoresList}
use Rattle.tune_search.proofs.Laid.{listed, some_list, worked}
use Rattle.tune_search.proofs.index_changes.store_list.Goals as goal

pub store-requires : goal.store-requires
store-requires g c =
    let s0 = c.args.edit.now.next in (
      search rules,
      (λ h. some_list g.row.W s0 c.args.index.now (c.requires.index h)),
    )

pub returns-in-Ok-clause-lays : goal.returns-in-Ok-clause-lays
returns-in-Ok-clause-lays g c = λ honest before after parts entries h.
    let s0 = c.args.edit.now.next in
    let s1 = c.store.new.edit.next in
    let e = c.in-Ok.ensures in
    let was = c.args.index.now in
    let stores = subst (λ (first : ℕ). StoresList s0 s1 was.first first was.pages) (sym e.list.0) (e.stores honest) in
    listed g.row.W s0 s1 was c.store.new.self before after parts entries h stores e.leaves.0 e.leaves.1
    (worked g.D.Disk.honest c.args.edit.now c.store.new.edit (c.law_of_pages.ensures e.edits.answer.0) (c.law_of_pages-in-Ok.ensures e.edits.answer.1)
    e.edits.looks.same)
