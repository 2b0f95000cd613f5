use Rattle.std.proofs.Common.{◌≡◌, ◌≤◌, ◌*◌, ◌∙◌, ℕ, List, true, false, length, sym, ap, subst, arith, rules}
use Rattle.tune_pages.specs.Faults.{free_pages, pages_for}
use Rattle.tune_pages.specs.Stand.{Stand, HasChain, marked, without_pages}
use Rattle.tune_pages.proofs.Edits.{full_fault, honest_before}
use Rattle.tune_index.specs.Indexes.{Shape}
use Rattle.tune_index.specs.ListedLeaves.{StoresList, listed_bytes}
use Rattle.tune_pages.proofs.Counting.{marked_less}
use Rattle.tune_pages.proofs.FreePages.{freed_more}
use Rattle.tune_index.proofs.Storing.{length-listed, stores, stores_none}
use Rattle.tune_index.proofs.index.Index.store.Goals as goal

pub returns-then-listed-clause-stores : goal.returns-then-listed-clause-stores
returns-then-listed-clause-stores g c = λ h.
    let s = c.args.edit.now.next in
    let was = c.args.self.now in
    let has = c.requires.list h in
    let on : was.listed ≡ true = search rules in
    let same : c.list_of-first.result.0 ≡ was.first = c.list_of-first.ensures.0 ∙ ap (λ (x : Shape). x.first) c.share_heads.ensures in
    subst (λ (n : ℕ). StoresList s s was.first n was.pages) (sym same)
    (stores_none s was.first was.pages has.0 has.1 has.2 (has.3 on) (λ t u a b x y. c.law_of_chains.ensures.once s.pages was.first t u a b x.chain y.chain))

-- as many pages are free then, and those of the old list besides
freed_list : (s mid : Stand) (first at : ℕ) (trail all : List ℕ) → at ≡ first → HasChain s first trail all
    → ((t a : List ℕ) → HasChain s at t a → mid ≡ without_pages t s) → free_pages s.used ≤ free_pages mid.used
freed_list s mid first at trail all same has freed =
    let is = freed trail all (subst (λ (n : ℕ). HasChain s n trail all) (sym same) has) in
    let free : free_pages mid.used ≡ free_pages (marked false trail s.used) = ap (λ (m : Stand). free_pages m.used) is in
    let more = freed_more trail s.used has.used in
    omega (arith, free, more)

pub returns-in-Err-put_chain-clause-takes : goal.returns-in-Err-put_chain-clause-takes
returns-in-Err-put_chain-clause-takes g c = λ behind is.
    let h = honest_before g.D.Disk.honest c.free_chain.new.self c.put_chain.new.self c.in-Err-put_chain.ensures.alters.base behind in
    let s = c.args.edit.now.next in
    let mid = c.free_chain.new.self.next in
    let was = c.args.self.now in
    let has = c.requires.list (c.in-Ok-free_chain.ensures.edits.looks.was_honest h) in
    let same : c.list_of-first.result.0 ≡ was.first = c.list_of-first.ensures.0 ∙ ap (λ (x : Shape). x.first) c.share_heads.ensures in
    let least = freed_list s mid was.first c.list_of-first.result.0 has.0 has.1 same has.2 (c.in-Ok-free_chain.ensures.next h) in
    let bytes : c.deref.result.now ≡ listed_bytes was.pages = c.deref.ensures.value ∙ c.in-Ok-write_list.ensures
    ∙ ap (λ (x : Shape). listed_bytes x.pages) c.share_heads.ensures in
    let size : pages_for (length c.deref.result.now) ≡ pages_for (4 * length was.pages) = ap (λ (x : List ℕ). pages_for (length x)) bytes
    ∙ ap pages_for (length-listed was.pages) in
    let full = full_fault c.in-Err-put_chain.fault _ ⊥ _ _ is c.in-Err-put_chain.ensures.alters.answer in
    omega (arith, least, size, full)

pub returns-clause-takes : goal.returns-clause-takes
returns-clause-takes g c = λ behind.
    let h = honest_before g.D.Disk.honest c.free_chain.new.self c.put_chain.new.self c.in-Ok-put_chain.ensures.alters.base behind in
    let s = c.args.edit.now.next in
    let mid = c.free_chain.new.self.next in
    let new = c.put_chain.new.self.next in
    let was = c.args.self.now in
    let has = c.requires.list (c.in-Ok-free_chain.ensures.edits.looks.was_honest h) in
    let same : c.list_of-first.result.0 ≡ was.first = c.list_of-first.ensures.0 ∙ ap (λ (x : Shape). x.first) c.share_heads.ensures in
    let least = freed_list s mid was.first c.list_of-first.result.0 has.0 has.1 same has.2 (c.in-Ok-free_chain.ensures.next h) in
    let bytes : c.deref.result.now ≡ listed_bytes was.pages = c.deref.ensures.value ∙ c.in-Ok-write_list.ensures
    ∙ ap (λ (x : Shape). listed_bytes x.pages) c.share_heads.ensures in
    let size : pages_for (length c.deref.result.now) ≡ pages_for (4 * length was.pages) = ap (λ (x : List ℕ). pages_for (length x)) bytes
    ∙ ap pages_for (length-listed was.pages) in
    let chain = c.in-Ok-put_chain.ensures.chain in
    let less = marked_less chain.0 mid.used chain.1.free in
    let used : free_pages new.used ≡ free_pages (marked true chain.0 mid.used) = ap free_pages chain.1.used in
    omega (arith, least, size, less, used, chain.1.count)

pub returns-clause-stores : goal.returns-clause-stores
returns-clause-stores g c = λ behind.
    let h = honest_before g.D.Disk.honest c.free_chain.new.self c.put_chain.new.self c.in-Ok-put_chain.ensures.alters.base behind in
    let s = c.args.edit.now.next in
    let mid = c.free_chain.new.self.next in
    let new = c.put_chain.new.self.next in
    let was = c.args.self.now in
    let same : c.list_of-first.result.0 ≡ was.first = c.list_of-first.ensures.0 ∙ ap (λ (x : Shape). x.first) c.share_heads.ensures in
    let bytes : c.deref.result.now ≡ listed_bytes was.pages = c.deref.ensures.value ∙ c.in-Ok-write_list.ensures
    ∙ ap (λ (x : Shape). listed_bytes x.pages) c.share_heads.ensures in
    subst (λ (n : ℕ). StoresList s new n c.in-Ok-put_chain.next was.pages) same
    (stores s mid new c.list_of-first.result.0 c.in-Ok-put_chain.next was.pages c.deref.result.now bytes (c.in-Ok-free_chain.ensures.next h)
    c.in-Ok-put_chain.ensures.chain)
