-- What the changes of pages leave alone: chains, and the pages of other owners.
use Rattle.std.proofs.Common.{◌≡◌, ◌≢◌, inl, inr, ℕ, ◌<◌, ◌≤◌, List, [], ◌∷◌, ◌++◌, length, get_or, set, replicate}
use Rattle.std.proofs.Common.{Bool, true, false, All, refl, sym, ◌∙◌, ap, subst, arith}
use Rattle.std.specs.List.{Contains}
use Rattle.std.proofs.lemmas.List.{get_or-set_same, get_or-set_other, get_or_past}
use Rattle.std.proofs.lemmas.List.Elements.{All-nil, All-cons, All-head, All-tail, Contains-append_left, Contains-append_right}
use Rattle.std.proofs.lemmas.Bool.{cases_eq, cases_lt}
use Rattle.tune_journal.specs.Pages.{page_at}
use Rattle.tune_pages.specs.Chain.{next_page_of, size_of, IsLink, Leads}
use Rattle.tune_pages.specs.Stand.{Stand, IsUsed, IsFree, marked, AllFree, AllUsed, HasChain, PutsChain, with_page, taken, without_page, without_pages}
use Rattle.tune_pages.specs.Frame.{mark_at, InUse, SamePage, Allocates, Frees, Puts, Apart, AllApart, TradesPages}
use Rattle.tune_pages.proofs.Chains.{SameAlong, bytes_kept}
use Rattle.tune_pages.proofs.Finishing.{set_false, false_keeps}
use Rattle.tune_pages.proofs.Giving.{not_freed}
use Rattle.tune_pages.proofs.Overlay.{marked_other}
use Rattle.tune_pages.proofs.Putting.{placed_here, placed_other, used_stays, used_apart, used_either}
use Rattle.tune_pages.proofs.Marks.{apart_all, all_apart, apart_or, not_both, apart_join, apart_left, apart_right}
use Rattle.tune_pages.proofs.Marks.{SameMarks, used_kept, used_each, free_not_used, free_in}

-- CHAINS THAT STAY
-- no bytes are no link
no_link : IsLink [] → ⊥
unfolding size_of
no_link link = omega (arith, link.some)

-- a page of a chain is one of the pages: past their end there is no link
pub link_within : (pages : List (List ℕ)) (p : ℕ) → IsLink (page_at pages p) → p < length pages
link_within pages p link = elim (cases_lt p (length pages)) [
  | inl lt ↦ lt
  | inr ge ↦ (let none : page_at pages p ≡ [] = get_or_past pages p [] (omega arith) in absurd (no_link (subst IsLink none link)))
]

leads_stay : (old new : List (List ℕ)) (first : ℕ) (trail : List ℕ) (end : ℕ) → SameAlong trail old new → Leads old first trail end → Leads new first trail end
leads_stay old new first [] end same leads = leads
leads_stay old new first (p ∷ trail) end same leads =
    let here : page_at new p ≡ page_at old p = same 0 0 (omega arith) in
    let link : IsLink (page_at new p) = subst IsLink (sym here) leads.3 in (
      leads.0,
      leads.1,
      link_within new p link,
      link,
      subst (λ (q : ℕ). Leads new q trail end) (sym (ap next_page_of here)) (leads_stay old new (next_page_of (page_at old p)) trail end (All-tail
          (λ q. page_at new q ≡ page_at old q) p trail same) leads.4),
    )

-- A chain stays where its pages keep their images and their marks.
pub chain_stays : (old new : Stand) (first : ℕ) (trail bytes : List ℕ) → SameAlong trail old.pages new.pages → SameMarks trail old.used new.used
    → HasChain old first trail bytes → HasChain new first trail bytes
chain_stays old new first trail bytes images marks has = record {
  chain = record {
    leads = leads_stay old.pages new.pages first trail 0 images has.chain.leads;
    holds = bytes_kept old.pages new.pages trail images
        ∙ has.chain.holds;
  };
  used = used_kept trail old.used new.used marks has.used;
}

leads_some : (pages : List (List ℕ)) (first : ℕ) (trail : List ℕ) (end : ℕ) → Leads pages first trail end → All (λ p. p ≢ 0) trail
leads_some pages first [] end leads = All-nil (λ p. p ≢ 0)
leads_some pages first (p ∷ trail) end leads = All-cons (λ q. q ≢ 0) p trail (λ is. absurd (omega (arith, is, leads.1))) (leads_some pages (next_page_of
    (page_at pages p)) trail end leads.4)

-- the root is no page of a chain
pub not_root : (s : Stand) (first : ℕ) (trail bytes : List ℕ) → HasChain s first trail bytes → Apart 0 trail
not_root s first trail bytes has = all_apart 0 trail (leads_some s.pages first trail 0 has.chain.leads)

each_in_use : (s : Stand) (first : ℕ) (trail bytes : List ℕ) → HasChain s first trail bytes → All (InUse s) trail
each_in_use s first trail bytes has = λ k d lt. record {
  flag = used_each trail s.used has.used k d lt;
  not_root = leads_some s.pages first trail 0 has.chain.leads k d lt;
}

apart_each : (trail others : List ℕ) → AllApart trail others → All (λ p. Apart p others) trail
apart_each [] others all = All-nil (λ p. Apart p others)
apart_each (p ∷ trail) others all = All-cons (λ q. Apart q others) p trail all.0 (apart_each trail others all.1)

each_apart : (trail others : List ℕ) → All (λ p. Apart p others) trail → AllApart trail others
each_apart [] others all = tt
each_apart (p ∷ trail) others all = (All-head (λ q. Apart q others) p trail all, each_apart trail others (All-tail (λ q. Apart q others) p trail all))

-- THE FRAME LAW. A chain that is none of an owner's stays, through whatever the owner trades, and stays none of the owner's.
pub chain_traded : (before after : List ℕ) (old new : Stand) (first : ℕ) (trail bytes : List ℕ) → TradesPages before after old new
    → HasChain old first trail bytes → AllApart trail before
    → HasChain new first trail bytes × AllApart trail after
chain_traded before after old new first trail bytes trades has apart = (
  chain_stays old new first trail bytes (λ k d lt. (same k d lt).0.image) (λ k d lt. (same k d lt).0.used) has,
  each_apart trail after (λ k d lt. (same k d lt).1),
)
  where
    same : All (λ p. SamePage old new p × Apart p after) trail
    same = λ k d lt. trades.kept (get_or trail k d) (each_in_use old first trail bytes has k d lt) (apart_each trail before apart k d lt)

-- TRADES, ONE AFTER ANOTHER
pub trades_none : (pages : List ℕ) (all : Stand) → TradesPages pages pages all all
trades_none pages all = record {
  kept = λ page u a. (record { image = refl; used = refl }, a);
  taken = λ page u. elim (apart_or page pages) [ inl c ↦ inl c | inr a ↦ inr (u, a) ];
}

pub trades_then : (a b c : List ℕ) (one two three : Stand) → TradesPages a b one two → TradesPages b c two three → TradesPages a c one three
trades_then a b c one two three s t = record {
  kept = λ page u d.
      let first = s.kept page u d in
      let now : InUse two page = record { flag = first.0.used ∙ u.flag; not_root = u.not_root } in
      let next = t.kept page now first.1 in
      (record { image = next.0.image ∙ first.0.image; used = next.0.used ∙ first.0.used }, next.1);
  taken = λ page u. elim (t.taken page u) [
    | inl c ↦ inl c
    | inr m ↦ elim (s.taken page m.0) [ inl n ↦ absurd (not_both page b n m.1) | inr n ↦ inr n ]
  ];
}

-- an owner who has other pages besides
pub trades_beside : (a b more : List ℕ) (old new : Stand) → TradesPages a b old new → TradesPages (a ++ more) (b ++ more) old new
trades_beside a b more old new s = record {
  kept = λ page u d. (let one = s.kept page u (apart_left page a more d) in (one.0, apart_join page b more one.1 (apart_right page a more d)));
  taken = λ page u. elim (s.taken page u) [
    | inl c ↦ inl (Contains-append_left b more page c)
    | inr m ↦ elim (apart_or page more) [ inl c ↦ inl (Contains-append_right b more page c) | inr d ↦ inr (m.0, apart_join page a more m.1 d) ]
  ];
}

-- the order in which an owner tells its pages does not matter
pub trades_as : (a b c d : List ℕ) (old new : Stand) → ((page : ℕ) → Apart page c → Apart page a) → ((page : ℕ) → Apart page a → Apart page c)
    → ((page : ℕ) → Apart page b → Apart page d) → ((page : ℕ) → Apart page d → Apart page b) → TradesPages a b old new → TradesPages c d old new
trades_as a b c d old new ca ac bd db s = record {
  kept = λ page u e. (let one = s.kept page u (ca page e) in (one.0, bd page one.1));
  taken = λ page u. elim (apart_or page d) [
    | inl i ↦ inl i
    | inr e ↦ elim (s.taken page u) [ inl i ↦ absurd (not_both page b i (db page e)) | inr m ↦ inr (m.0, ac page m.1) ]
  ];
}

-- WHAT EACH CALL TRADES
pub taken_allocates : (s : Stand) (page : ℕ) → IsFree s.used page → 0 < page → page ≤ length s.pages → Allocates s (taken page s) page
taken_allocates s page free some le = record {
  free = free_not_used s.used page free;
  in_use = record { flag = get_or-set_same s.used page true false (free_in s.used page free); not_root = λ is. absurd (omega (arith, some, is)) };
  others = λ other ne. record { image = placed_other page (replicate 4096 0) s.pages other le ne; used = get_or-set_other s.used page other true false ne };
}

pub without_frees : (s : Stand) (page : ℕ) → Frees s (without_page page s) page
without_frees s page = record {
  free = λ used. (let none = set_false s.used page in let clash : false ≡ true = sym none ∙ used in absurd (let e = clash in cc));
  others = λ other ne. record { image = refl; used = get_or-set_other s.used page other false false ne };
}

pub with_puts : (s : Stand) (page : ℕ) (image : List ℕ) → page ≤ length s.pages → Puts s (with_page page image s) page image
with_puts s page image le = record {
  image = placed_here page image s.pages le;
  used = refl;
  others = λ other ne. record { image = placed_other page image s.pages other le ne; used = refl };
}

contains_one : (page : ℕ) → Contains (page ∷ []) page
contains_one page = (0, omega arith, refl)

pub allocates_trades : (old new : Stand) (page : ℕ) → Allocates old new page → TradesPages [] (page ∷ []) old new
allocates_trades old new page al = record {
  kept = λ q u a. (let ne : q ≢ page = λ is. al.free (subst (λ (x : ℕ). IsUsed old.used x) is u.flag) in (al.others q ne, (λ is. ne (sym is), tt)));
  taken = λ q u. elim (cases_eq q page) [
    | inl here ↦ inl (subst (λ (x : ℕ). Contains (page ∷ []) x) (sym here) (contains_one page))
    | inr ne ↦ inr (record { flag = sym (al.others q ne).used ∙ u.flag; not_root = u.not_root }, tt)
  ];
}

pub frees_trades : (old new : Stand) (page : ℕ) → Frees old new page → TradesPages (page ∷ []) [] old new
frees_trades old new page f = record {
  kept = λ q u a. (f.others q (λ is. a.0 (sym is)), tt);
  taken = λ q u. (let ne : q ≢ page = λ is. f.free (subst (λ (x : ℕ). IsUsed new.used x) is u.flag) in
      inr (record { flag = sym (f.others q ne).used ∙ u.flag; not_root = u.not_root }, (λ is. ne (sym is), tt)));
}

pub puts_trades : (old new : Stand) (page : ℕ) (image : List ℕ) → Puts old new page image → TradesPages (page ∷ []) (page ∷ []) old new
puts_trades old new page image p = record {
  kept = λ q u a. (p.others q (λ is. a.0 (sym is)), a);
  taken = λ q u. elim (cases_eq q page) [
    | inl here ↦ inl (subst (λ (x : ℕ). Contains (page ∷ []) x) (sym here) (contains_one page))
    | inr ne ↦ inr (record { flag = sym (p.others q ne).used ∙ u.flag; not_root = u.not_root }, (λ is. ne (sym is), tt))
  ];
}

-- a new root is none of an owner's pages
pub root_trades : (old new : Stand) (image : List ℕ) → Puts old new 0 image → TradesPages [] [] old new
root_trades old new image p = record {
  kept = λ q u a. (p.others q u.not_root, tt);
  taken = λ q u. inr (record { flag = sym (p.others q u.not_root).used ∙ u.flag; not_root = u.not_root }, tt);
}

-- A NEW CHAIN
-- the pages that were free are in use, each once
pub free_used : (trail : List ℕ) (m : List Bool) → AllFree trail m → AllUsed trail (marked true trail m)
free_used [] m free = tt
free_used (p ∷ trail) m free = (
  used_stays trail (set m p true) p here,
  used_kept trail (marked true trail (set m p true)) (set (marked true trail (set m p true)) p false)
      (λ k d lt. get_or-set_other (marked true trail (set m p true)) p (get_or trail k d) false false (apart k d lt))
      (free_used trail (set m p true) free.1),
)
  where
    here : IsUsed (set m p true) p
    here = get_or-set_same m p true false (free_in m p free.0)

    apart : All (λ q. q ≢ p) trail
    apart = used_apart trail (set m p true) p free.1 (used_either (set m p true) p here)

-- a page in use is none of those that were free
used_beside : (trail : List ℕ) (m : List Bool) (p : ℕ) → AllFree trail m → IsUsed m p → All (λ q. q ≢ p) trail
used_beside trail m p free is = used_apart trail m p free (used_either m p is)

-- Pages that were in use stay so beside those, and are none of them.
pub used_past : (trail others : List ℕ) (m : List Bool) → AllFree trail m → AllUsed others m → AllUsed others (marked true trail m) × AllApart others trail
used_past trail others m free used = (
  used_kept others m (marked true trail m)
      (λ k d lt. marked_other true trail m (get_or others k d) false (used_beside trail m (get_or others k d) free (each k d lt))) used,
  each_apart others trail (λ k d lt. all_apart (get_or others k d) trail (used_beside trail m (get_or others k d) free (each k d lt))),
)
  where
    each : All (λ p. IsUsed m p) others
    each = used_each others m used

pub mark_past : (b d : Bool) (trail : List ℕ) (m : List Bool) (p : ℕ) → Apart p trail → get_or (marked b trail m) p d ≡ get_or m p d
mark_past b d trail m p apart = marked_other b trail m p d (apart_all p trail apart)

pub put_has : (old new : Stand) (first : ℕ) (trail bytes : List ℕ) → PutsChain old new first trail bytes → HasChain new first trail bytes
put_has old new first trail bytes put = record { chain = put.chain; used = subst (AllUsed trail) (sym put.used) (free_used trail old.used put.free) }

pub put_chain_trades : (old new : Stand) (first : ℕ) (trail bytes : List ℕ) → PutsChain old new first trail bytes → TradesPages [] trail old new
put_chain_trades old new first trail bytes put = record {
  kept = λ q u a. (let apart = used_apart trail old.used q put.free (used_either old.used q u.flag) in
      (record { image = put.others.same q apart; used = mark q apart }, all_apart q trail apart));
  taken = λ q u. elim (apart_or q trail) [
    | inl c ↦ inl c
    | inr a ↦ inr (record { flag = sym (mark q (apart_all q trail a)) ∙ u.flag; not_root = u.not_root }, tt)
  ];
}
  where
    mark : (q : ℕ) → All (λ p. p ≢ q) trail → mark_at new q ≡ mark_at old q
    mark q apart = ap (λ (m : List Bool). get_or m q false) put.used ∙ marked_other true trail old.used q false apart

pub free_chain_trades : (s : Stand) (trail : List ℕ) → TradesPages trail [] s (without_pages trail s)
free_chain_trades s trail = record {
  kept = λ q u a. (record { image = refl; used = marked_other false trail s.used q false (apart_all q trail a) }, tt);
  taken = λ q u. inr (record { flag = false_keeps trail s.used q u.flag; not_root = u.not_root }, all_apart q trail (not_freed trail s.used q u.flag));
}

-- CHAINS THROUGH EACH CALL
none_apart : (trail : List ℕ) → AllApart trail []
none_apart [] = tt
none_apart (p ∷ trail) = (tt, none_apart trail)

one_apart : (trail : List ℕ) (page : ℕ) → Apart page trail → AllApart trail (page ∷ [])
one_apart [] page apart = tt
one_apart (p ∷ trail) page apart = (((λ is. apart.0 (sym is)), tt), one_apart trail page apart.1)

pub chain_past_put : (old new : Stand) (first : ℕ) (trail bytes : List ℕ) (other : ℕ) (trail' bytes' : List ℕ) → PutsChain old new other trail' bytes'
    → HasChain old first trail bytes
    → HasChain new first trail bytes × AllApart trail trail'
chain_past_put old new first trail bytes other trail' bytes' put has =
    chain_traded [] trail' old new first trail bytes (put_chain_trades old new other trail' bytes' put) has (none_apart trail)

pub chain_past_free : (s : Stand) (first : ℕ) (trail bytes freed : List ℕ) → HasChain s first trail bytes → AllApart trail freed
    → HasChain (without_pages freed s) first trail bytes
chain_past_free s first trail bytes freed has apart = (chain_traded freed [] s (without_pages freed s) first trail bytes
    (free_chain_trades s freed) has apart).0

pub chain_past_page : (s : Stand) (first : ℕ) (trail bytes : List ℕ) (page : ℕ) (image : List ℕ) → page ≤ length s.pages → HasChain s first trail bytes
    → Apart page trail
    → HasChain (with_page page image s) first trail bytes
chain_past_page s first trail bytes page image le has apart =
    (chain_traded (page ∷ []) (page ∷ []) s (with_page page image s) first trail bytes (puts_trades s (with_page page image s) page image
    (with_puts s page image le)) has (one_apart trail page apart)).0

pub chain_past_root : (s : Stand) (first : ℕ) (trail bytes image : List ℕ) → HasChain s first trail bytes → HasChain (with_page 0 image s) first trail bytes
chain_past_root s first trail bytes image has = chain_past_page s first trail bytes 0 image (omega arith) has (not_root s first trail bytes has)

pub chain_past_taken : (s : Stand) (first : ℕ) (trail bytes : List ℕ) (page : ℕ) → IsFree s.used page → 0 < page → page ≤ length s.pages
    → HasChain s first trail bytes
    → HasChain (taken page s) first trail bytes
chain_past_taken s first trail bytes page free some le has =
    (chain_traded [] (page ∷ []) s (taken page s) first trail bytes (allocates_trades s (taken page s) page (taken_allocates s page free some le)) has
    (none_apart trail)).0

pub chain_past_freed : (s : Stand) (first : ℕ) (trail bytes : List ℕ) (page : ℕ) → HasChain s first trail bytes → Apart page trail
    → HasChain (without_page page s) first trail bytes
chain_past_freed s first trail bytes page has apart =
    (chain_traded (page ∷ []) [] s (without_page page s) first trail bytes (frees_trades s (without_page page s) page (without_frees s page)) has
    (one_apart trail page apart)).0
