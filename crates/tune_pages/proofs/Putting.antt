-- Laying a chain, a page at a time.
use Rattle.std.proofs.Common.{◌≡◌, ◌≢◌, inl, inr, ℕ, zero, suc, ◌+◌, ◌*◌, ◌<◌, ◌≤◌, max, List, [], ◌∷◌, ◌++◌, length, get_or, set, drop}
use Rattle.std.proofs.Common.{take, replicate, Bool, true, false, All, refl, sym, ◌∙◌, ap, subst, arith}
use Rattle.std.proofs.lemmas.List.{append-nil, places, get_or-set_same, get_or-set_other, get_or_past, get_or_append_left, length-set, length-take, length-drop}
use Rattle.std.proofs.lemmas.List.{length-append}
use Rattle.std.proofs.lemmas.List.Elements.{All-tail, All-nil, All-cons, All-push}
use Rattle.std.proofs.lemmas.Bool.{cases_eq, cases_lt}
use Rattle.tune_journal.specs.Pages.{page_at}
use Rattle.tune_pages.specs.Chain.{next_page_of, piece_of, IsLink, Leads, bytes_along, IsPadded, ArePadded}
use Rattle.tune_pages.specs.LinkOffsets.{piece_room}
use Rattle.tune_pages.specs.Stand.{Stand, IsUsed, IsFree, IsLeastFree, AllLeastFree, marked, AllFree, KeepsOthers, PutsChain, placed}
use Rattle.tune_pages.specs.Stand.{with_page, taken, taken_with}
use Rattle.tune_pages.proofs.Wants.{as_many}
use Rattle.tune_pages.proofs.Chains.{SameAlong, leads_kept, bytes_kept, leads_more, bytes_more, marked_more, free_more}

pub length-placed : (p : ℕ) (image : List ℕ) (pages : List (List ℕ)) → p ≤ length pages → length (placed p image pages) ≡ max (length pages) (p + 1)
length-placed p image pages le = omega (arith, length-append (take p pages) (image ∷ drop (p + 1) pages), length-take p pages, length-drop (p + 1) pages)

pub placed_here : (p : ℕ) (image : List ℕ) (pages : List (List ℕ)) → p ≤ length pages → page_at (placed p image pages) p ≡ image
placed_here p image pages le = grind (arith, places, length-take p pages)

pub placed_other : (p : ℕ) (image : List ℕ) (pages : List (List ℕ)) (q : ℕ) → p ≤ length pages → q ≢ p → page_at (placed p image pages) q ≡ page_at pages q
placed_other p image pages q le ne = grind (arith, places, length-take p pages)

set_true : (m : List Bool) (p : ℕ) → get_or (set m p true) p true ≡ true
set_true m p = elim (cases_lt p (length m)) [
  | inl lt ↦ get_or-set_same m p true true lt
  | inr ge ↦ get_or_past (set m p true) p true (omega (arith, length-set m p true))
]

set_keeps : (m : List Bool) (q p : ℕ) → get_or m p true ≡ true → get_or (set m q true) p true ≡ true
set_keeps m q p is = elim (cases_eq p q) [
  | inl here ↦ subst (λ (x : ℕ). get_or (set m q true) x true ≡ true) (sym here) (set_true m q)
  | inr other ↦ get_or-set_other m q p true true other ∙ is
]

marked_keeps : (t : List ℕ) (m : List Bool) (p : ℕ) → get_or m p true ≡ true → get_or (marked true t m) p true ≡ true
marked_keeps [] m p is = is
marked_keeps (q ∷ t) m p is = marked_keeps t (set m q true) p (set_keeps m q p is)

-- a page that is still free is none of those
pub free_apart : (t : List ℕ) (m : List Bool) (p : ℕ) → IsFree (marked true t m) p → All (λ q. q ≢ p) t
free_apart [] m p free = All-nil (λ q. q ≢ p)
free_apart (q ∷ t) m p free = All-cons (λ q. q ≢ p) q t
    (λ is. (let yes' : get_or (marked true t (set m q true)) p true ≡ true = marked_keeps t (set m q true) p
    (subst (λ (x : ℕ). get_or (set m q true) x true ≡ true) is (set_true m q)) in cc))
    (free_apart t (set m q true) p free)

-- a page in use is none of those that were free
pub used_apart : (t : List ℕ) (m : List Bool) (p : ℕ) → AllFree t m → get_or m p true ≡ true → All (λ q. q ≢ p) t
used_apart [] m p free is = All-nil (λ q. q ≢ p)
used_apart (q ∷ t) m p free is = All-cons (λ q. q ≢ p) q t
    (λ same. (let yes' : get_or m q true ≡ true = subst (λ (x : ℕ). get_or m x true ≡ true) (sym same) is in cc))
    (used_apart t (set m q true) p free.1 (set_keeps m q p is))

pub leads_below : (pages : List (List ℕ)) (first : ℕ) (t : List ℕ) (end : ℕ) → Leads pages first t end → All (λ p. p < length pages) t
leads_below pages first [] end leads = All-nil (λ p. p < length pages)
leads_below pages first (p ∷ t) end leads = All-cons (λ p. p < length pages) p t leads.2 (leads_below pages (next_page_of (page_at pages p)) t end leads.4)

-- A chain is being laid: it has come to this page, which is taken and still to be written.
pub record Laid (old now : Stand) (first page : ℕ) (done : List ℕ) : Type 0 where
  pub trail : List ℕ
  pub leads : Leads now.pages first trail page
  pub read : bytes_along now.pages trail ≡ done
  pub padded : ArePadded now.pages trail
  pub free : AllFree (trail ++ page ∷ []) old.used
  pub least : AllLeastFree (trail ++ page ∷ []) old.used
  pub used : now.used ≡ marked true (trail ++ page ∷ []) old.used
  pub others : KeepsOthers (trail ++ page ∷ []) old.pages now.pages
  pub some : 0 < page
  pub within : page < length now.pages
  pub count : length done ≡ piece_room * length trail

-- all of these are other pages than p
abbrev pub Apart : List ℕ → ℕ → Type 0
Apart t p = All (λ q. q ≢ p) t

-- pages are kept along a trail that the changed ones are no part of
pub same_along : (x t : List ℕ) (old new : List (List ℕ)) → KeepsOthers x old new → All (Apart x) t → SameAlong t old new
same_along x t old new keeps apart = λ k d lt. keeps.same (get_or t k d) (apart k d lt)

swap_apart : (t : List ℕ) (p : ℕ) → Apart t p → All (Apart (p ∷ [])) t
swap_apart t p apart = λ k d lt. All-cons (λ q. q ≢ get_or t k d) p [] (λ is. apart k d lt (sym is)) (All-nil (λ q. q ≢ get_or t k d))

-- The page that was come to is written; then the trail has it too.
pub record Wrote (P Q : List (List ℕ)) (first page : ℕ) (trail image : List ℕ) : Type 0 where
  pub leads : Leads Q first (trail ++ page ∷ []) (next_page_of image)
  pub read : bytes_along Q (trail ++ page ∷ []) ≡ bytes_along P trail ++ piece_of image
  pub padded : ArePadded Q (trail ++ page ∷ [])

pub wrote : (P Q : List (List ℕ)) (first page : ℕ) (trail image x : List ℕ) → Leads P first trail page → 0 < page → page < length Q → KeepsOthers x P Q
    → All (Apart x) trail → page_at Q page ≡ image → IsLink image → ArePadded P trail → IsPadded image
    → Wrote P Q first page trail image
wrote P Q first page trail image x leads some within keeps apart here link padded is_padded =
    let same : SameAlong trail P Q = same_along x trail P Q keeps apart in
    let kept : Leads Q first trail page = leads_kept P Q first trail page keeps.longer same leads in
    record {
      leads = subst (λ (i : List ℕ). Leads Q first (trail ++ page ∷ []) (next_page_of i)) here
          (leads_more Q first trail page kept some within (subst IsLink (sym here) link));
      read = bytes_more Q trail page ∙ ap (λ (b : List ℕ). b ++ piece_of (page_at Q page)) (bytes_kept P Q trail same)
          ∙ ap (λ (i : List ℕ). bytes_along P trail ++ piece_of i) here;
      padded = All-push (λ p. IsPadded (page_at Q p)) trail page
          (λ k d lt. subst IsPadded (sym (same k d lt)) (padded k d lt)) (subst IsPadded (sym here) is_padded);
    }

pub free_last : (t : List ℕ) (p : ℕ) (m : List Bool) → AllFree (t ++ p ∷ []) m → IsFree (marked true t m) p
free_last [] p m all = all.0
free_last (q ∷ t) p m all = free_last t p (set m q true) all.1

pub front_apart : (t : List ℕ) (p q : ℕ) → All (λ x. x ≢ q) (t ++ p ∷ []) → All (λ x. x ≢ q) t
front_apart t p q apart = λ k d lt. (let e = get_or_append_left t (p ∷ []) d k lt in
    subst (λ (x : ℕ). x ≢ q) e (apart k d (omega (arith, length-append t (p ∷ [])))))

pub last_apart : (t : List ℕ) (p q : ℕ) → All (λ x. x ≢ q) (t ++ p ∷ []) → p ≢ q
last_apart [] p q apart = apart 0 0 (omega arith)
last_apart (x ∷ t) p q apart = last_apart t p q (All-tail (λ y. y ≢ q) x (t ++ p ∷ []) apart)

-- a page that is in use has a mark, so it is no page past the end
pub used_either : (m : List Bool) (p : ℕ) → IsUsed m p → get_or m p true ≡ true
used_either [] p used = refl
used_either (b ∷ m) zero used = used
used_either (b ∷ m) (suc p) used = used_either m p used

pub set_used : (m : List Bool) (q p : ℕ) → IsUsed m p → IsUsed (set m q true) p
set_used m q p used = elim (cases_eq p q) [
  | inl here ↦ elim (cases_lt q (length m)) [
    | inl lt ↦ subst (λ (x : ℕ). get_or (set m q true) x false ≡ true) (sym here) (get_or-set_same m q true false lt)
    | inr ge ↦ (let none : get_or m p false ≡ false = get_or_past m p false (omega arith) in cc)
  ]
  | inr other ↦ get_or-set_other m q p true false other ∙ used
]

pub used_stays : (t : List ℕ) (m : List Bool) (p : ℕ) → IsUsed m p → IsUsed (marked true t m) p
used_stays [] m p used = used
used_stays (q ∷ t) m p used = used_stays t (set m q true) p (set_used m q p used)

least_more : (t : List ℕ) (p : ℕ) (m : List Bool) → AllLeastFree t m → IsLeastFree (marked true t m) p → AllLeastFree (t ++ p ∷ []) m
least_more [] p m all free = (free, tt)
least_more (q ∷ t) p m all free = (all.0, least_more t p (set m q true) all.1 free)

-- one page on
pub laid_more : (old now : Stand) (first page next : ℕ) (done image : List ℕ) (one two : Stand) → Laid old now first page done
    → one ≡ taken next now → two ≡ with_page page image one → IsLeastFree now.used next → 0 < next → next ≤ length now.pages
    → IsLink image → next_page_of image ≡ next → length (piece_of image) ≡ piece_room → IsPadded image
    → Laid old two first next (done ++ piece_of image)
laid_more old now first page next done image one two laid is_one is_two free_next some le link goes whole is_padded = record {
  trail = trail';
  leads = subst (λ (n : ℕ). Leads two.pages first trail' n) goes put.leads;
  read = put.read ∙ ap (λ (b : List ℕ). b ++ piece_of image) laid.read;
  padded = put.padded;
  free = free_more trail' next old.used laid.free free_there;
  least = least_more trail' next old.used laid.least (subst (λ (m : List Bool). IsLeastFree m next) laid.used free_next);
  used = used_two ∙ ap (λ (m : List Bool). set m next true) laid.used ∙ sym (marked_more true trail' next old.used);
  others = record {
    longer = omega (arith, laid.others.longer, longer);
    same = λ p apart. (let out : Apart trail' p = λ k d lt'. front_apart trail' next p apart k d lt' in
        keeps p (λ is. last_apart laid.trail page p out (sym is)) (λ is. last_apart trail' next p apart (sym is)) ∙ laid.others.same p out);
  };
  some = some;
  within = omega (arith, size_two);
  count = omega (arith, laid.count, whole, length-append done (piece_of image), length-append laid.trail (page ∷ []));
}
  where
    trail' : List ℕ
    trail' = laid.trail ++ page ∷ []

    pages_two : two.pages ≡ placed page image (placed next (replicate 4096 0) now.pages)
    pages_two = ap (λ (s : Stand). s.pages) is_two ∙ ap (λ (s : Stand). placed page image s.pages) is_one

    used_two : two.used ≡ set now.used next true
    used_two = ap (λ (s : Stand). s.used) is_two ∙ ap (λ (s : Stand). s.used) is_one

    size_one : length (placed next (replicate 4096 0) now.pages) ≡ max (length now.pages) (next + 1)
    size_one = length-placed next (replicate 4096 0) now.pages le

    page_in : page ≤ length (placed next (replicate 4096 0) now.pages)
    page_in = omega (arith, size_one, laid.within)

    size_two : length two.pages ≡ max (length now.pages) (next + 1)
    size_two = ap (λ (l : List (List ℕ)). length l) pages_two
        ∙ omega (arith, length-placed page image (placed next (replicate 4096 0) now.pages) page_in, size_one, laid.within)

    longer : length now.pages ≤ length two.pages
    longer = omega (arith, size_two)

    free_there : IsFree (marked true trail' old.used) next
    free_there = subst (λ (m : List Bool). IsFree m next) laid.used free_next.free

    keeps : (p : ℕ) → p ≢ page → p ≢ next → page_at two.pages p ≡ page_at now.pages p
    keeps p ne ne' = ap (λ (l : List (List ℕ)). page_at l p) pages_two ∙ placed_other page image (placed next (replicate 4096 0) now.pages) p page_in ne
        ∙ placed_other next (replicate 4096 0) now.pages p le ne'

    others' : KeepsOthers (page ∷ next ∷ []) now.pages two.pages
    others' = record {
      longer = longer;
      same = λ p apart. keeps p (λ is. apart 0 0 (omega arith) (sym is)) (λ is. apart 1 0 (omega arith) (sym is));
    }

    here : page_at two.pages page ≡ image
    here = ap (λ (l : List (List ℕ)). page_at l page) pages_two ∙ placed_here page image (placed next (replicate 4096 0) now.pages) page_in

    apart_next : Apart trail' next
    apart_next = free_apart trail' old.used next free_there

    apart_page : Apart laid.trail page
    apart_page = free_apart laid.trail old.used page (free_last laid.trail page old.used laid.free)

    both : All (Apart (page ∷ next ∷ [])) laid.trail
    both = λ k d lt. All-cons (λ q. q ≢ get_or laid.trail k d) page (next ∷ []) (λ is. apart_page k d lt (sym is))
        (All-cons (λ q. q ≢ get_or laid.trail k d) next [] (λ is. front_apart laid.trail page next apart_next k d lt (sym is))
        (All-nil (λ q. q ≢ get_or laid.trail k d)))

    put : Wrote now.pages two.pages first page laid.trail image
    put = wrote now.pages two.pages first page laid.trail image (page ∷ next ∷ []) laid.leads laid.some
        (omega (arith, longer, laid.within)) others' both here link laid.padded is_padded

-- the last page
pub laid_end : (old now : Stand) (first page : ℕ) (done image bytes : List ℕ) (two : Stand) → Laid old now first page done
    → two ≡ with_page page image now → IsLink image → next_page_of image ≡ 0 → done ++ piece_of image ≡ bytes → IsPadded image
    → 0 < length (piece_of image) → length (piece_of image) ≤ piece_room
    → (trail : List ℕ) × PutsChain old two first trail bytes
laid_end old now first page done image bytes two laid is link goes whole is_padded some few = (
  trail',
  record {
    chain = record {
      leads = subst (λ (n : ℕ). Leads two.pages first trail' n) goes put.leads;
      holds = put.read
          ∙ ap (λ (b : List ℕ). b ++ piece_of image) laid.read ∙ whole;
    };
    padded = put.padded;
    count = as_many (length trail') (length bytes) (omega (arith, size, laid.count, some, length-append laid.trail (page ∷ [])))
        (omega (arith, size, laid.count, few, length-append laid.trail (page ∷ [])));
    free = laid.free;
    least = laid.least;
    used = ap (λ (s : Stand). s.used) is ∙ laid.used;
    others = record {
      longer = omega (arith, laid.others.longer, size_two);
      same = λ p apart. keeps p (λ e. last_apart laid.trail page p apart (sym e)) ∙ laid.others.same p apart;
    };
  },
)
  where
    trail' : List ℕ
    trail' = laid.trail ++ page ∷ []

    size : length bytes ≡ length done + length (piece_of image)
    size = ap (λ (b : List ℕ). length b) (sym whole) ∙ length-append done (piece_of image)

    page_in : page ≤ length now.pages
    page_in = omega (arith, laid.within)

    pages_two : two.pages ≡ placed page image now.pages
    pages_two = ap (λ (s : Stand). s.pages) is

    size_two : length two.pages ≡ length now.pages
    size_two = ap (λ (l : List (List ℕ)). length l) pages_two ∙ omega (arith, length-placed page image now.pages page_in, laid.within)

    keeps : (p : ℕ) → p ≢ page → page_at two.pages p ≡ page_at now.pages p
    keeps p ne = ap (λ (l : List (List ℕ)). page_at l p) pages_two ∙ placed_other page image now.pages p page_in ne

    put : Wrote now.pages two.pages first page laid.trail image
    put = wrote now.pages two.pages first page laid.trail image (page ∷ []) laid.leads laid.some (omega (arith, size_two, laid.within))
        (record { longer = omega (arith, size_two); same = λ p apart. keeps p (λ e. apart 0 0 (omega arith) (sym e)) })
        (swap_apart laid.trail page (free_apart laid.trail old.used page (free_last laid.trail page old.used laid.free)))
        (ap (λ (l : List (List ℕ)). page_at l page) pages_two ∙ placed_here page image now.pages page_in) link
        laid.padded is_padded

-- the first page is taken
pub laid_start : (old now : Stand) (page : ℕ) → now ≡ taken page old → IsLeastFree old.used page → 0 < page → page ≤ length old.pages
    → Laid old now page page []
laid_start old now page is free some le = record {
  trail = [];
  leads = refl;
  read = refl;
  padded = All-nil (λ (p : ℕ). IsPadded (page_at now.pages p));
  free = (free.free, tt);
  least = (free, tt);
  used = ap (λ (s : Stand). s.used) is;
  others = record {
    longer = omega (arith, size);
    same = λ p apart. ap (λ (s : Stand). page_at s.pages p) is ∙ placed_other page (replicate 4096 0) old.pages p le (λ e. apart 0 0 (omega arith) (sym e));
  };
  some = some;
  within = omega (arith, size);
  count = omega arith;
}
  where
    size : length now.pages ≡ max (length old.pages) (page + 1)
    size = ap (λ (s : Stand). length s.pages) is ∙ length-placed page (replicate 4096 0) old.pages le

pub free_within : (m : List Bool) (p : ℕ) → IsFree m p → p < length m
free_within m p free = elim (cases_lt p (length m)) [
  | inl lt ↦ lt
  | inr ge ↦ (let past : get_or m p true ≡ true = get_or_past m p true (omega arith) in absurd cc)
]

pub laid_used : (old now : Stand) (first page : ℕ) (done : List ℕ) → Laid old now first page done → IsUsed now.used page
laid_used old now first page done laid =
    let free = free_last laid.trail page old.used laid.free in
    subst (λ (m : List Bool). IsUsed m page) (sym (laid.used ∙ marked_more true laid.trail page old.used))
    (get_or-set_same (marked true laid.trail old.used) page true false (free_within (marked true laid.trail old.used) page free))

pub taken_used : (old now one : Stand) (first page next : ℕ) (done : List ℕ) → Laid old now first page done → one ≡ taken next now → IsUsed one.used page
taken_used old now one first page next done laid is = subst (λ (s : Stand). IsUsed s.used page) (sym is)
    (set_used now.used next page (laid_used old now first page done laid))

-- A chain of one page.
pub laid_alone : (old now : Stand) (page : ℕ) (image bytes : List ℕ) → now ≡ taken_with page image old → IsLeastFree old.used page → 0 < page
    → page ≤ length old.pages → IsLink image → next_page_of image ≡ 0 → piece_of image ≡ bytes → IsPadded image
    → 0 < length bytes → length bytes ≤ piece_room → (trail : List ℕ) × PutsChain old now page trail bytes
laid_alone old now page image bytes is least some le link ends holds is_padded has few = (
  page ∷ [],
  record {
    chain = record {
      leads = (
        refl,
        some,
        omega (arith, size),
        subst IsLink (sym here) link,
        ap next_page_of here ∙ ends,
      );
      holds = append-nil (piece_of (page_at now.pages page)) ∙ ap piece_of here ∙ holds;
    };
    padded = All-cons (λ p. IsPadded (page_at now.pages p)) page [] (subst IsPadded (sym here) is_padded) (All-nil (λ (p : ℕ). IsPadded (page_at now.pages p)));
    count = as_many 1 (length bytes) (omega (arith, has)) (omega (arith, few));
    free = (least.free, tt);
    least = (least, tt);
    used = ap (λ (s : Stand). s.used) is;
    others = record {
      longer = omega (arith, size);
      same = λ p apart. ap (λ (s : Stand). page_at s.pages p) is ∙ placed_other page image old.pages p le (λ e. apart 0 0 (omega arith) (sym e));
    };
  },
)
  where
    size : length now.pages ≡ max (length old.pages) (page + 1)
    size = ap (λ (s : Stand). length s.pages) is ∙ length-placed page image old.pages le

    here : page_at now.pages page ≡ image
    here = ap (λ (s : Stand). page_at s.pages page) is ∙ placed_here page image old.pages le
