-- The values of the entries in a range of keys.
use Rattle.std.proofs.Common.{◌≡◌, ℕ, zero, suc, ◌+◌, ◌<◌, ◌≤◌, List, [], ◌∷◌, ◌++◌, length, take, drop, get_or, slice_index, refl, sym, ap, ◌∙◌, arith}
use Rattle.std.proofs.Common.{append_assoc, inl, inr}
use Rattle.std.proofs.lemmas.Bool.{cases_lt}
use Rattle.std.proofs.lemmas.Bool.Decides.{nat_tests}
use Rattle.std.proofs.lemmas.List.{take_more, append-nil, get_or_default}
use Rattle.tune_pages.specs.Stand.{Stand}
use Rattle.tune_pages.specs.Frame.{image_at, InUse}
use Rattle.index_keys.specs.Entries.{Entry, rank, EntriesRiseFrom, values_within, AllFit}
use Rattle.index_keys.proofs.RisingEntries.{rises_middle}
use Rattle.tune_index.specs.Indexes.{entries_of}
use Rattle.tune_index.specs.Inside.EachPage.{HasEachPage}
use Rattle.tune_index.specs.Leaves.{IsLeaf, leaf_in, entries_in, entry_in, count_in}

-- the first entry in the range, and out of it
pub within_first : (low high : ℕ) (e : Entry) (es : List Entry) → low ≤ e.0 → e.0 ≤ high → values_within low high (e ∷ es) ≡ e.1 ∷ values_within low high es
within_first low high e es a b = grind (arith, nat_tests)

pub below_first : (low high : ℕ) (e : Entry) (es : List Entry) → e.0 < low → values_within low high (e ∷ es) ≡ values_within low high es
below_first low high e es a = grind (arith, nat_tests)

above_first : (low high : ℕ) (e : Entry) (es : List Entry) → high < e.0 → values_within low high (e ∷ es) ≡ values_within low high es
above_first low high e es a = grind (arith, nat_tests)

-- of two lists
pub values_within-append : (low high : ℕ) (xs ys : List Entry) → values_within low high (xs ++ ys) ≡ values_within low high xs ++ values_within low high ys
values_within-append low high [] ys = refl
values_within-append low high (x ∷ xs) ys = elim (cases_lt x.0 low) [
  | inl below ↦ below_first low high x (xs ++ ys) below ∙ values_within-append low high xs ys
      ∙ sym (ap (λ (z : List ℕ). z ++ values_within low high ys) (below_first low high x xs below))
  | inr over ↦ elim (cases_lt high x.0) [
    | inl above ↦ above_first low high x (xs ++ ys) above ∙ values_within-append low high xs ys
        ∙ sym (ap (λ (z : List ℕ). z ++ values_within low high ys) (above_first low high x xs above))
    | inr within ↦ within_first low high x (xs ++ ys) over within ∙ ap (λ (z : List ℕ). x.1 ∷ z) (values_within-append low high xs ys)
        ∙ sym (ap (λ (z : List ℕ). z ++ values_within low high ys) (within_first low high x xs over within))
  ]
]

-- what stands before an entry that is not past the range's begin has no entry of the range
pub none_below : (low high place : ℕ) (xs : List Entry) (y : Entry) (ys : List Entry) → EntriesRiseFrom place (xs ++ y ∷ ys) → rank y ≤ rank (low, 0)
    → values_within low high xs ≡ []
none_below low high place [] y ys r l = refl
none_below low high place (x ∷ xs) y ys r l =
    let m = rises_middle (rank x + 1) xs y ys r.1 in
    below_first low high x xs (omega (arith, m, l)) ∙ none_below low high (rank x + 1) xs y ys r.1 l

-- what rises from past the range's end has none
pub none_above : (width low high place : ℕ) (xs : List Entry) → AllFit width xs → EntriesRiseFrom place xs → rank (high + 1, 0) ≤ place
    → values_within low high xs ≡ []
none_above width low high place [] f r l = refl
none_above width low high place (x ∷ xs) f r l =
    let h = r.0 in let v = f.0.value in
    above_first low high x xs (omega (arith, h, v, l)) ∙ none_above width low high (rank x + 1) xs f.1 r.1 (omega (arith, h, l))

-- a leaf has an entry
pub record Begun (es : List Entry) : Type 0 where
  pub head : Entry
  pub rest : List Entry
  pub is : es ≡ head ∷ rest

begun : (width n : ℕ) (bytes : List ℕ) → 1 ≤ n → Begun (entries_in width n bytes)
begun width zero bytes h = absurd (omega arith)
begun width (suc n) bytes h = record { head = entry_in width bytes; rest = entries_in width n (drop (width + 4) bytes); is = refl }

pub leaf_begun : (width : ℕ) (image : List ℕ) → IsLeaf width image → Begun (leaf_in width image)
unfolding leaf_in
leaf_begun width image h = begun width (count_in image) (drop 2 image) h.some

-- the front of a list whose entries fit, and the rest
pub fit_front : (width : ℕ) (xs ys : List Entry) → AllFit width (xs ++ ys) → AllFit width xs
fit_front width [] ys h = tt
fit_front width (x ∷ xs) ys h = (h.0, fit_front width xs ys h.1)

pub fit_back : (width : ℕ) (xs ys : List Entry) → AllFit width (xs ++ ys) → AllFit width ys
fit_back width [] ys h = h
fit_back width (x ∷ xs) ys h = fit_back width xs ys h.1

-- the pages taken so far, and one more
pub entries_of-push : (width : ℕ) (all : Stand) (pages : List ℕ) (page : ℕ)
    → entries_of width all (pages ++ page ∷ []) ≡ entries_of width all pages ++ leaf_in width (image_at all page)
entries_of-push width all [] page = append-nil (leaf_in width (image_at all page))
entries_of-push width all (p ∷ ps) page =
    ap (λ (x : List Entry). leaf_in width (image_at all p) ++ x) (entries_of-push width all ps page)
    ∙ sym (append_assoc (leaf_in width (image_at all p)) (entries_of width all ps) (leaf_in width (image_at all page)))

pub values_more : (width low high i : ℕ) (all : Stand) (pages : List ℕ) → i < length pages
    → values_within low high (entries_of width all (take (i + 1) pages)) ≡ values_within low high (entries_of width all (take i pages))
    ++ values_within low high (leaf_in width (image_at all (slice_index pages i)))
values_more width low high i all pages l =
    let t : take (i + 1) pages ≡ take i pages ++ slice_index pages i ∷ [] = take_more pages i 0 l in
    ap (λ (x : List ℕ). values_within low high (entries_of width all x)) t
    ∙ ap (values_within low high) (entries_of-push width all (take i pages) (slice_index pages i))
    ∙ values_within-append low high (entries_of width all (take i pages)) (leaf_in width (image_at all (slice_index pages i)))

-- a page of the index is in use
pub page_in_use : (all : Stand) (pages : List ℕ) (i : ℕ) → HasEachPage all pages → i < length pages → InUse all (slice_index pages i)
page_in_use all [] i h l = absurd (omega arith)
page_in_use all (page ∷ pages) zero h l = h.0
page_in_use all (page ∷ pages) (suc i) h l = page_in_use all pages i h.2 (omega arith)

-- the page that was read from the list
pub read_page : (items pages : List ℕ) (i page : ℕ) → items ≡ pages → i < length pages → page ≡ get_or items i page → page ≡ slice_index pages i
read_page items pages i page e l r = r ∙ ap (λ (x : List ℕ). get_or x i page) e ∙ get_or_default pages i page 0 l
