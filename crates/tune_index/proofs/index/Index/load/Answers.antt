use Rattle.std.proofs.Common.{◌≡◌, ℕ, suc, ◌+◌, ◌*◌, ◌^◌, ◌<◌, ◌≤◌, List, ◌++◌, Bool, true, length, drop, set, rules, arith, sym, ap, ◌∙◌, subst}
use Rattle.tune_journal.specs.Pages.{page_at}
use Rattle.tune_pages.specs.Claim.{Claimable, IsClaimableWithin}
use Rattle.tune_pages.specs.Faults.{pages_for}
use Rattle.tune_pages.specs.Stand.{IsFree, AllFree, marked}
use Rattle.tune_pages.proofs.Chains.{free_more, marked_more}
use Rattle.tune_pages.proofs.Claiming.{fault_as}
use Rattle.index_keys.specs.Entries.{Entry, IsRising}
use Rattle.tune_index.specs.Indexes.{entries_of}
use Rattle.tune_index.specs.Inside.Loading.{LoadsLeaf}
use Rattle.tune_index.specs.Leaves.{leaf_in, value_in, IsLeaf}
use Rattle.tune_index.specs.ListedLeaves.{IsStored, index_with, listed_bytes, numbers_in, stand_of_pages}
use Rattle.tune_index.proofs.Loading.{LoadedSoFar, loaded_more, stored_bytes, stored_next, stored_within, length-numbers}
use Rattle.tune_index.proofs.index.Index.load.Goals as goal

-- there are marks of four bytes' numbers
few_marks : (n m : ℕ) → n < 4294967296 → n ≡ m → m < 256 ^ 4
few_marks n m l e = omega (arith, l, e)

pub returns-in-Err-clause-damaged : goal.returns-in-Err-clause-damaged
returns-in-Err-clause-damaged g c = λ h.
    let now = c.args.opening.now in
    let sized = c.count-count.ensures.sized (c.in-Err.ensures.looks.was_honest h) in
    let most : c.pages_for.result ≡ pages_for (c.args.most * 4) = c.pages_for.ensures in
    fault_as c.in-Err.fault (IsClaimableWithin c.pages_for.result now.pages now.claimed c.args.first)
    (IsStored g.row.W c.args.most now.pages now.claimed c.args.first)
    (λ s. subst (λ (n : ℕ). IsClaimableWithin n now.pages now.claimed c.args.first) (sym most)
    (stored_within g.row.W c.args.most now.pages now.claimed c.args.first sized s)) (c.in-Err.ensures.damaged h)

pub returns-in-None-clause-damaged : goal.returns-in-None-clause-damaged
returns-in-None-clause-damaged g c = λ h s.
    let now = c.args.opening.now in
    let chain = c.in-Ok.ensures.chain h in
    let small = few_marks c.count-count.result (length now.claimed) (search rules) c.count-count.ensures.marks in
    let is = stored_bytes g.row.W c.args.most now.pages now.claimed c.args.first chain.0 c.in-Ok.bytes.items s.0 s.1 small chain.1 s.2 in
    let here : c.deref.result.now ≡ c.in-Ok.bytes.items = c.deref.ensures.value in
    let size = ap length here in
    c.count_numbers.ensures.none (search rules) (length s.1) (omega (arith, is.1, size))

pub returns-in-Err-load_leaf-clause-damaged : goal.returns-in-Err-load_leaf-clause-damaged
returns-in-Err-load_leaf-clause-damaged g c = λ h.
    let W = g.row.W in
    let inv = c.loop-place.invariant in
    let call = c.in-Err-load_leaf.ensures in
    let back = call.looks.was_honest h in
    let start = inv.honest back in
    let chain = c.in-Ok.ensures.chain start in
    let pages = c.args.opening.now.pages in
    let page = c.number_at-page.result in
    let bytes = c.in-Ok.bytes.items in
    let index = c.loop-place.index in
    let es : List Entry = g.L.EntryList.entries c.loop-place.entries in
    let same : c.claim_chain_within.new.self.pages ≡ pages = c.in-Ok.ensures.looks.same_pages start in
    let now : c.loop-place.opening.pages ≡ pages = inv.pages back ∙ same in
    let so = subst (λ (ps : List (List ℕ)). LoadedSoFar W ps bytes c.args.first c.loop-place.place index es) same (inv.so_far back) in
    let after : c.loop-place.opening.claimed ≡ marked true index.pages (marked true chain.0 c.args.opening.now.claimed) =
    inv.after back ∙ ap (λ (m : List Bool). marked true index.pages m) chain.2 in
    let here = ap length c.deref.ensures.value in
    let room : c.loop-place.place * 4 + 4 ≤ length bytes = omega (arith, here, c.in-Some.ensures.size, c.loop-place-test.true) in
    let at : page ≡ value_in (drop (4 * c.loop-place.place) bytes) = c.number_at-page.ensures
    ∙ ap (λ (x : List ℕ). value_in (drop (4 * c.loop-place.place) x)) c.deref-in-loop-place.ensures.value in
    let P = λ (ps : List (List ℕ)). IsFree c.loop-place.opening.claimed page × IsLeaf W (page_at ps page) × IsRising (es ++ leaf_in W (page_at ps page))
    × (length (es ++ leaf_in W (page_at ps page)) ≤ c.args.most) in
    let small = few_marks c.count-count.result (length c.args.opening.now.claimed) (search rules) c.count-count.ensures.marks in
    fault_as c.in-Err-load_leaf.fault (P c.loop-place.opening.pages) (IsStored W c.args.most pages c.args.opening.now.claimed c.args.first)
    (λ s. subst P (sym now)
    (stored_next W c.args.most pages c.args.opening.now.claimed c.loop-place.opening.claimed c.args.first c.loop-place.place page chain.0 bytes index es
    small
    chain.1 so after room at s)) (call.damaged h)

pub loop-place-preserved : goal.loop-place-preserved
loop-place-preserved g c =
    let W = g.row.W in
    let inv = c.loop-place.invariant in
    let call = c.in-Ok-load_leaf.ensures in
    let page = c.number_at-page.result in
    let place = c.loop-place.place in
    let bytes = c.in-Ok.bytes.items in
    let was = c.loop-place.index in
    let is = c.load_leaf.new.index in
    let old : List Entry = g.L.EntryList.entries c.loop-place.entries in
    let new : List Entry = g.L.EntryList.entries c.load_leaf.new.entries in
    let start = c.claim_chain_within.new.self in
    let at : page ≡ value_in (drop (4 * place) bytes) = c.number_at-page.ensures
    ∙ ap (λ (x : List ℕ). value_in (drop (4 * place) x)) c.deref-in-loop-place.ensures.value in
    let next : suc place ≡ place + 1 = omega arith in
    record {
      honest = λ h. inv.honest (call.looks.was_honest h);
      same = λ h. call.looks.same_state h ∙ inv.same (call.looks.was_honest h);
      pages = λ h. call.looks.same_pages h ∙ inv.pages (call.looks.was_honest h);
      count = call.looks.count ∙ inv.count;
      failures = call.looks.counted ∙ inv.failures;
      rising = call.rising;
      few = call.few;
      so_far = λ h.
          let back = call.looks.was_honest h in
          let leaf = subst (λ (ps : List (List ℕ)). LoadsLeaf W ps page (index_with was old) (index_with is new)) (inv.pages back) (call.leaf h) in
          subst (λ (k : ℕ). LoadedSoFar W start.pages bytes c.args.first k is new) next
          (loaded_more W start.pages bytes c.args.first place page was is old new (inv.so_far back) at leaf);
      after = λ h.
          let back = call.looks.was_honest h in
          call.free.1 ∙ ap (λ (m : List Bool). set m page true) (inv.after back) ∙ sym (marked_more true was.pages page start.claimed)
          ∙ sym (ap (λ (ps : List ℕ). marked true ps start.claimed) (call.leaf h).pages_are);
      free = λ h.
          let back = call.looks.was_honest h in
          subst (λ (ps : List ℕ). AllFree ps start.claimed) (sym (call.leaf h).pages_are)
          (free_more was.pages page start.claimed (inv.free back) (subst (λ (m : List Bool). IsFree m page) (inv.after back) call.free.0));
    }

pub returns-clause-loads : goal.returns-clause-loads
returns-clause-loads g c = λ h.
    let W = g.row.W in
    let inv = c.loop-place.invariant in
    let start = inv.honest h in
    let chain = c.in-Ok.ensures.chain start in
    let bytes = c.in-Ok.bytes.items in
    let place = c.loop-place.place in
    let index = c.loop-place.index in
    let es : List Entry = g.L.EntryList.entries c.loop-place.entries in
    let same : c.claim_chain_within.new.self.pages ≡ c.args.opening.now.pages = c.in-Ok.ensures.looks.same_pages start in
    let so = subst (λ (ps : List (List ℕ)). LoadedSoFar W ps bytes c.args.first place index es) same (inv.so_far h) in
    let count : length index.pages ≡ place = ap length so.leaves ∙ length-numbers place bytes in
    let all : place ≡ c.in-Some.count = omega (arith, c.loop-place-test.false, c.loop-place.auto.place-end) in
    let here : c.deref.result.now ≡ bytes = c.deref.ensures.value in
    let numbers : listed_bytes (numbers_in place bytes) ≡ bytes = subst (λ (k : ℕ). listed_bytes (numbers_in k bytes) ≡ bytes) (sym all)
    (subst (λ (x : List ℕ). listed_bytes (numbers_in c.in-Some.count x) ≡ x) here c.in-Some.ensures.listed) in
    let listed : listed_bytes index.pages ≡ bytes = ap listed_bytes so.leaves ∙ numbers in
    let few : length (entries_of W (stand_of_pages c.args.opening.now.pages) index.pages) ≤ c.args.most =
    subst (λ (x : List Entry). length x ≤ c.args.most) so.entries inv.few in
    record {
      trail = chain.0;
      stored = record {
        list = subst (λ (x : List ℕ). Claimable c.args.opening.now.pages c.args.opening.now.claimed c.args.first chain.0 x) (sym listed) chain.1;
        free = subst (λ (m : List Bool). AllFree index.pages m) chain.2 (inv.free h);
        form = so.form;
        rising = subst (λ (x : List Entry). IsRising x) so.entries inv.rising;
        few = few;
      };
      marks = inv.after h ∙ ap (λ (m : List Bool). marked true index.pages m) chain.2;
      are = so.entries;
      heads = so.heads;
      begins = so.first_is;
      listed = so.listed;
      fit = so.fit;
    }
