-- An index whose leaves were traded, and one whose list was stored, stand among all other parts.
use Rattle.std.proofs.Common.{◌≡◌, ◌≢◌, ℕ, ◌<◌, List, [], ◌∷◌, ◌++◌, length, map, All, Bool, true, false, replicate, refl, sym, ◌∙◌, ap, subst, append_assoc}
use Rattle.std.proofs.Common.{arith}
use Rattle.std.specs.List.{AllByRecursion}
use Rattle.tune_pages.specs.Frame.{TradesPages}
use Rattle.tune_pages.specs.Stand.{Stand, IsUsed, AllUsed, IsFree, AllFree, marked, HasChain}
use Rattle.tune_pages.proofs.Marks.{apart_all, apart_left, apart_right, used_each}
use Rattle.tune_pages.proofs.Frames.{free_used}
use Rattle.tune_pages.specs.Edited.{Edited, IsGoing}
use Rattle.tune_pages.specs.PageLooks.{SameKept}
use Rattle.tune_pages.specs.Chain.{IsChain, Leads, next_page_of}
use Rattle.tune_journal.specs.Pages.{page_at}
use Rattle.std.proofs.lemmas.List.{append-nil}
use Rattle.std.proofs.lemmas.List.Elements.{All-nil, All-cons}
use Rattle.index_keys.specs.Entries.{AllFit, Entry, IsRising, removed, removed_all}
use Rattle.tune_index.specs.Indexes.{HasPages, IsIndex, KeepsList, Shape, entries_of}
use Rattle.tune_index.specs.Leaves.{leaf_in, slice_entry}
use Rattle.tune_index.specs.ListedLeaves.{HasList, StoresList, listed_bytes, index_with}
use Rattle.tune_parts.specs.Parts.{HoldsParts, chain_part, IsPart, IsPartOf, Part, PartKind, root_and_trails, trails}
use Rattle.tune_parts.specs.Parts.PartKind.{chain, leaf}
use Rattle.tune_parts.proofs.Lists.{all_left, all_right}
use Rattle.tune_parts.proofs.Once.{once_cut, free_once, once_free, free_past, marked_put}
use Rattle.tune_parts.proofs.Staying.{trails_join}
use Rattle.tune_parts.proofs.TradedParts.{parts_traded}
use Rattle.tune_search.specs.IndexParts.{HoldsIndexAmong, HoldsSomeIndex, LaysIndex, IndexParts, IsLeafPart, KeepsIndex, entries_of_parts}
use Rattle.tune_search.proofs.LeafParts.{leaf_parts, entries_leaves, firsts_leaves, form_leaves, heads_leaves, leaves_back, leaves_form, no_chain, stand_leaves}
use Rattle.tune_search.proofs.LeafParts.{trails_leaves}

-- how a stand that a change makes is
pub record IsWorked (old new : Stand) : Type 0 where
  pub marks : length new.used ≡ length old.used
  pub root : IsUsed new.used 0
  pub inside : (page : ℕ) → IsUsed new.used page → page < length new.pages

pub worked : {D : Type 0} (honest : D → Type 0) (old new : Edited D) → IsGoing old → IsGoing new → SameKept honest old.base new.base
    → IsWorked old.next new.next
worked honest old new was is same = record {
  marks = is.marks ∙ ap length same.used ∙ sym was.marks;
  root = is.root;
  inside = is.inside;
}

-- the leaves of an index are those of its pages
pub leaves_of : (width : ℕ) (s : Stand) (shape : Shape) (before after : List Part) (parts : IndexParts) (entries : List Entry)
    → HoldsIndexAmong width s (index_with shape entries) before after parts → parts.leaves ≡ leaf_parts s shape.pages
leaves_of width s shape before after parts entries h =
    let stands = all_left (IsPart s.pages) parts.leaves after (all_right (IsPart s.pages) before (parts.list ∷ (parts.leaves ++ after)) h.holds.stand).1 in
    leaves_back width s parts.leaves stands h.keeps.leaves ∙ ap (λ (pages : List ℕ). leaf_parts s pages) (sym h.keeps.pages)

-- entries that go out, one after another
pub removed_all-append : (xs ys es : List Entry) → removed_all (xs ++ ys) es ≡ removed_all ys (removed_all xs es)
removed_all-append [] ys es = refl
removed_all-append (x ∷ xs) ys es = removed_all-append xs ys (removed x es)

-- WHAT PARTS HOLD
-- pages in the middle of others are in use once all are
used_among : (xs t ys : List ℕ) (m : List Bool) → AllFree (xs ++ (t ++ ys)) m → AllUsed t (marked true (xs ++ (t ++ ys)) m)
used_among xs t ys m free =
    let known = free_once (xs ++ (t ++ ys)) m free in
    let cut = once_cut xs t ys known.0 in
    let each = all_left (IsFree m) t ys (all_right (IsFree m) xs (t ++ ys) known.1) in
    let others = marked true (xs ++ ys) m in
    rw (marked_put true xs t ys m) (free_used t others (once_free t others cut.1 (free_past (xs ++ ys) t m cut.2 each)))

-- the pages of some parts among all are in use, and none is the root
pub parts_used : (s : Stand) (before mine after : List Part) → HoldsParts s (before ++ (mine ++ after)) → HasPages s (trails mine)
parts_used s before mine after h =
    let pages : root_and_trails (before ++ (mine ++ after)) ≡ (0 ∷ trails before) ++ (trails mine ++ trails after)
    = ap (λ (l : List ℕ). 0 ∷ l) (trails_join before (mine ++ after) ∙ ap (λ (l : List ℕ). trails before ++ l) (trails_join mine after)) in
    let none = replicate (length s.used) false in
    let free : AllFree ((0 ∷ trails before) ++ (trails mine ++ trails after)) none = subst (λ (l : List ℕ). AllFree l none) pages h.apart in
    let used : s.used ≡ marked true ((0 ∷ trails before) ++ (trails mine ++ trails after)) none = h.used ∙ ap (λ (l : List ℕ). marked true l none) pages in
    let apart = (free_once ((0 ∷ trails before) ++ (trails mine ++ trails after)) none free).0.0 in (
      subst (λ (m : List Bool). AllUsed (trails mine) m) (sym used) (used_among (0 ∷ trails before) (trails mine) (trails after) none free),
      apart_left 0 (trails mine) (trails after) (apart_right 0 (trails before) (trails mine ++ trails after) apart),
    )

-- what an index among other parts is to the calls that change it
pub index_among : (width : ℕ) (s : Stand) (shape : Shape) (before after : List Part) (parts : IndexParts) (entries : List Entry)
    → HoldsIndexAmong width s (index_with shape entries) before after parts
    → HasPages s shape.pages × IsIndex width s shape × (entries_of width s shape.pages ≡ entries)
index_among width s shape before after parts entries h = (rw (← trails_leaves s shape.pages, ← leaves) used, is, are)
  where
    leaves : parts.leaves ≡ leaf_parts s shape.pages
    leaves = leaves_of width s shape before after parts entries h

    used : HasPages s (trails parts.leaves)
    used = parts_used s (before ++ parts.list ∷ []) parts.leaves after
        (subst (λ (all : List Part). HoldsParts s all) (sym (append_assoc before (parts.list ∷ []) (parts.leaves ++ after))) h.holds)

    are : entries_of width s shape.pages ≡ entries
    are = sym (entries_leaves width s shape.pages) ∙ ap (entries_of_parts width) (sym leaves) ∙ h.keeps.hold

    is : IsIndex width s shape
    is = record {
      form = leaves_form width s shape.pages (subst (λ (all : List Part). AllByRecursion (IsLeafPart width) all) leaves h.keeps.leaves);
      heads = h.keeps.heads ∙ ap (λ (all : List Part). map (λ part. slice_entry (leaf_in width part.bytes) 0) all) leaves ∙ heads_leaves width s shape.pages;
      rising = subst (λ (es : List Entry). IsRising es) (sym are) h.keeps.rising;
      fit = subst (λ (es : List Entry). AllFit width es) (sym are) h.keeps.fit;
    }

-- and its list
chain_of : (s : Stand) (kind : PartKind) (first : ℕ) (trail bytes : List ℕ) → kind ≡ chain → IsPartOf kind s.pages first trail bytes
    → IsChain s.pages first trail bytes
chain_of s chain first trail bytes is stands = stands
chain_of s leaf first trail bytes is stands = absurd (no_chain (sym is))

pub list_among : (width : ℕ) (s : Stand) (shape : Shape) (before after : List Part) (parts : IndexParts) (entries : List Entry)
    → HoldsIndexAmong width s (index_with shape entries) before after parts → HasChain s shape.first parts.list.trail parts.list.bytes
list_among width s shape before after parts entries h =
    let stands = (all_right (IsPart s.pages) before (parts.list ∷ (parts.leaves ++ after)) h.holds.stand).0 in
    let used = parts_used s before (parts.list ∷ []) (parts.leaves ++ after) h.holds in
    let is = chain_of s parts.list.kind parts.list.first parts.list.trail parts.list.bytes h.keeps.is_chain stands in
    record {
      chain = subst (λ (first : ℕ). IsChain s.pages first parts.list.trail parts.list.bytes) (sym h.keeps.first) is;
      used = subst (λ (trail : List ℕ). AllUsed trail s.used) (append-nil parts.list.trail) used.0;
    }

pub some_pages : (width : ℕ) (s : Stand) (shape : Shape) → HoldsSomeIndex width s shape → HasPages s shape.pages
some_pages width s shape (before, after, parts, entries, h) = (index_among width s shape before after parts entries h).0

pub some_index : (width : ℕ) (s : Stand) (shape : Shape) → HoldsSomeIndex width s shape → IsIndex width s shape
some_index width s shape (before, after, parts, entries, h) = (index_among width s shape before after parts entries h).1

pub some_list : (width : ℕ) (s : Stand) (shape : Shape) → HoldsSomeIndex width s shape → HasList s shape
some_list width s shape (before, after, parts, entries, h) =
    (parts.list.trail, parts.list.bytes, list_among width s shape before after parts entries h, h.keeps.listed)

-- What is done with an index that stands there is done with it wherever it stands.
pub some_laid : (width : ℕ) (old new : Stand) (was is : Shape) (change : List Entry → List Entry) → LaysIndex width old new was is change
    → HoldsSomeIndex width old was → HoldsSomeIndex width new is
some_laid width old new was is change lays (before, after, parts, entries, h) =
    let done = lays before after parts entries h in
    (before, after, done.0, change entries, done.1)

pub lays_then : (width : ℕ) (one two three : Stand) (was mid is : Shape) (first second : List Entry → List Entry) → LaysIndex width one two was mid first
    → LaysIndex width two three mid is second → LaysIndex width one three was is (λ entries. second (first entries))
lays_then width one two three was mid is first second lays more = λ before after parts entries h.
    let done = lays before after parts entries h in
    more before after done.0 (first entries) done.1

-- The leaves were traded.
pub laid : (width : ℕ) (old new : Stand) (was is : Shape) (before after : List Part) (parts : IndexParts) (entries more : List Entry)
    → HoldsIndexAmong width old (index_with was entries) before after parts → KeepsList was is → HasPages new is.pages → TradesPages was.pages is.pages old new
    → IsIndex width new is → entries_of width new is.pages ≡ more → IsWorked old new
    → (next : IndexParts) × HoldsIndexAmong width new (index_with is more) before after next
laid width old new was is before after parts entries more h list pages trades index are worked = (next, record { holds = held; keeps = kept })
  where
    next : IndexParts
    next = record { list = parts.list; leaves = leaf_parts new is.pages }

    mine : trails parts.leaves ≡ was.pages
    mine = ap trails (leaves_of width old was before after parts entries h) ∙ trails_leaves old was.pages

    yours : trails next.leaves ≡ is.pages
    yours = trails_leaves new is.pages

    front : HoldsParts old ((before ++ parts.list ∷ []) ++ (parts.leaves ++ after))
    front = subst (λ (all : List Part). HoldsParts old all) (sym (append_assoc before (parts.list ∷ []) (parts.leaves ++ after))) h.holds

    stands : AllByRecursion (IsPart new.pages) next.leaves
    stands = stand_leaves new is.pages worked.inside (used_each is.pages new.used pages.0) pages.1

    held : HoldsParts new (before ++ (next.list ∷ (next.leaves ++ after)))
    held = subst (λ (all : List Part). HoldsParts new all) (append_assoc before (parts.list ∷ []) (next.leaves ++ after))
        (parts_traded old new (before ++ parts.list ∷ []) parts.leaves next.leaves after front (rw (mine, yours) trades) worked.marks worked.root worked.inside
        (rw yours pages.0) (rw yours (apart_all 0 is.pages pages.1)) stands)

    kept : KeepsIndex width is next more
    kept = record {
      is_chain = h.keeps.is_chain;
      leaves = form_leaves width new is.pages index.form;
      first = list.first ∙ h.keeps.first;
      pages = sym (firsts_leaves new is.pages);
      heads = index.heads ∙ sym (heads_leaves width new is.pages);
      listed = λ l. (let w = list.listed l in h.keeps.listed w.0 ∙ ap listed_bytes (sym w.1));
      hold = entries_leaves width new is.pages ∙ are;
      rising = subst (λ (es : List Entry). IsRising es) are index.rising;
      fit = subst (λ (es : List Entry). AllFit width es) are index.fit;
    }

-- none of the pages of a chain is the root
leads_some : (pages : List (List ℕ)) (first : ℕ) (trail : List ℕ) → Leads pages first trail 0 → All (λ p. p ≢ 0) trail
leads_some pages first [] leads = All-nil (λ p. p ≢ 0)
leads_some pages first (p ∷ trail) leads = All-cons (λ q. q ≢ 0) p trail (λ is. absurd (omega (arith, is, leads.1)))
    (leads_some pages (next_page_of (page_at pages p)) trail leads.4)

-- The list was stored.
pub listed : (width : ℕ) (old new : Stand) (was is : Shape) (before after : List Part) (parts : IndexParts) (entries : List Entry)
    → HoldsIndexAmong width old (index_with was entries) before after parts → StoresList old new was.first is.first was.pages
    → is.pages ≡ was.pages → is.heads ≡ was.heads → IsWorked old new
    → (next : IndexParts) × HoldsIndexAmong width new (index_with is entries) before after next
listed width old new was is before after parts entries h stores same heads worked = (next, record { holds = held; keeps = kept })
  where
    stored : (along : List ℕ) × HasChain new is.first along (listed_bytes was.pages) × TradesPages parts.list.trail along old new
    stored = stores parts.list.trail parts.list.bytes (list_among width old was before after parts entries h)

    along : List ℕ
    along = stored.0

    list : Part
    list = chain_part is.first along (listed_bytes was.pages)

    next : IndexParts
    next = record { list = list; leaves = parts.leaves }

    held : HoldsParts new (before ++ (list ∷ (parts.leaves ++ after)))
    held = parts_traded old new before (parts.list ∷ []) (list ∷ []) (parts.leaves ++ after) h.holds
        (rw (append-nil parts.list.trail, append-nil along) stored.2) worked.marks worked.root worked.inside
        (rw (append-nil along) stored.1.used) (rw (append-nil along) (leads_some new.pages is.first along stored.1.chain.leads)) (stored.1.chain, tt)

    kept : KeepsIndex width is next entries
    kept = record {
      is_chain = refl;
      leaves = h.keeps.leaves;
      first = refl;
      pages = same ∙ h.keeps.pages;
      heads = heads ∙ h.keeps.heads;
      listed = λ l. ap listed_bytes (sym same);
      hold = h.keeps.hold;
      rising = h.keeps.rising;
      fit = h.keeps.fit;
    }
