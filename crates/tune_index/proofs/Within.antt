-- The leaves of a range: what stands before the first of them and behind the last has none of its entries.
use Rattle.std.proofs.Common.{◌≡◌, ◌⊎◌, ℕ, zero, suc, ◌<◌, ◌≤◌, List, [], ◌∷◌, ◌++◌, length, take, drop, slice_index, refl, sym, ap, ◌∙◌, arith}
use Rattle.std.proofs.Common.{append_assoc, inl, inr, subst}
use Rattle.std.proofs.lemmas.List.{append-nil, take-append-drop}
use Rattle.tune_pages.specs.Frame.{image_at}
use Rattle.tune_pages.specs.Stand.{Stand}
use Rattle.index_keys.specs.Entries.{AllFit, Entry, EntriesRiseFrom, rank, values_within}
use Rattle.index_keys.proofs.RisingEntries.{rises_back}
use Rattle.tune_index.specs.Indexes.{AllLeaves, entries_of, heads_of}
use Rattle.tune_index.specs.Leaves.{leaf_in, slice_entry}
use Rattle.tune_index.proofs.Puts.{form_at}
use Rattle.tune_index.proofs.Ranges.{Begun, fit_back, leaf_begun, none_above, none_below, values_within-append}
use Rattle.tune_index.proofs.Splits.{entries_of-append}

-- the entries before a leaf, of the leaf and after it
entries_at : (width : ℕ) (all : Stand) (pages : List ℕ) (i : ℕ) → i < length pages → entries_of width all pages
    ≡ entries_of width all (take i pages) ++ (leaf_in width (image_at all (slice_index pages i)) ++ entries_of width all (drop (suc i) pages))
entries_at width all [] i l = absurd (omega arith)
entries_at width all (q ∷ qs) zero l = refl
entries_at width all (q ∷ qs) (suc i) l =
    let leaf = leaf_in width (image_at all (slice_index qs i)) in
    ap (λ (x : List Entry). leaf_in width (image_at all q) ++ x) (entries_at width all qs i (omega arith))
    ∙ sym (append_assoc (leaf_in width (image_at all q)) (entries_of width all (take i qs)) (leaf ++ entries_of width all (drop (suc i) qs)))

-- the first entry of a leaf
head_at : (width : ℕ) (all : Stand) (pages : List ℕ) (i : ℕ) → i < length pages
    → slice_entry (heads_of width all pages) i ≡ slice_entry (leaf_in width (image_at all (slice_index pages i))) 0
head_at width all [] i l = absurd (omega arith)
head_at width all (q ∷ qs) zero l = refl
head_at width all (q ∷ qs) (suc i) l = head_at width all qs i (omega arith)

-- what begins above the range has no entry of it
past_high : (width low high place : ℕ) (es : List Entry) (b : Begun es) → AllFit width es → EntriesRiseFrom place es → rank (high, 0) < rank (b.head.0, 0)
    → values_within low high es ≡ []
past_high width low high place es b fit up l =
    let f : AllFit width (b.head ∷ b.rest) = rw b.is at fit in
    let r : EntriesRiseFrom place (b.head ∷ b.rest) = rw b.is at up in
    ap (values_within low high) b.is ∙ none_above width low high (rank b.head) (b.head ∷ b.rest) f (omega arith, r.1) (omega (arith, l))

-- the leaves before one that begins no later than the range have no entry of it
pub none_before : (width low high place i : ℕ) (all : Stand) (pages : List ℕ) → AllLeaves width all pages → EntriesRiseFrom place (entries_of width all pages)
    → i < length pages → (i ≡ 0) ⊎ (rank (slice_entry (heads_of width all pages) i) ≤ rank (low, 0))
    → values_within low high (entries_of width all (take i pages)) ≡ []
none_before width low high place i all pages form up l (inl first) =
    ap (λ (k : ℕ). values_within low high (entries_of width all (take k pages))) first
none_before width low high place i all pages form up l (inr no_later) =
    let leaf = leaf_in width (image_at all (slice_index pages i)) in
    let b = leaf_begun width (image_at all (slice_index pages i)) (form_at width all pages i form l) in
    let before = entries_of width all (take i pages) in
    let after = entries_of width all (drop (suc i) pages) in
    let is : slice_entry (heads_of width all pages) i ≡ b.head = head_at width all pages i l ∙ ap (λ (x : List Entry). slice_entry x 0) b.is in
    let whole : entries_of width all pages ≡ before ++ (b.head ∷ (b.rest ++ after)) =
    entries_at width all pages i l ∙ ap (λ (x : List Entry). before ++ (x ++ after)) b.is in
    none_below low high place before b.head (b.rest ++ after) (subst (λ (x : List Entry). EntriesRiseFrom place x) whole up)
    (subst (λ (e : Entry). rank e ≤ rank (low, 0)) is no_later)

-- nor has a leaf that begins above it, or one behind that
pub none_behind : (width low high place i : ℕ) (all : Stand) (pages : List ℕ) → AllLeaves width all pages → EntriesRiseFrom place (entries_of width all pages)
    → AllFit width (entries_of width all pages) → i < length pages → rank (high, 0) < rank ((slice_entry (heads_of width all pages) i).0, 0)
    → values_within low high (entries_of width all (drop i pages)) ≡ []
none_behind width low high place i all [] form up fit l past = absurd (omega arith)
none_behind width low high place zero all (page ∷ pages) form up fit l past =
    let leaf = leaf_in width (image_at all page) in
    let b = leaf_begun width (image_at all page) form.0 in
    let is : slice_entry leaf 0 ≡ b.head = ap (λ (x : List Entry). slice_entry x 0) b.is in
    let begun : Begun (leaf ++ entries_of width all pages) = record {
      head = b.head;
      rest = b.rest ++ entries_of width all pages;
      is = ap (λ (x : List Entry). x ++ entries_of width all pages) b.is;
    } in
    past_high width low high place (leaf ++ entries_of width all pages) begun fit up (subst (λ (e : Entry). rank (high, 0) < rank (e.0, 0)) is past)
none_behind width low high place (suc i) all (page ∷ pages) form up fit l past =
    none_behind width low high place i all pages form.1 (rises_back place (leaf_in width (image_at all page)) (entries_of width all pages) up)
    (fit_back width (leaf_in width (image_at all page)) (entries_of width all pages) fit) (omega arith) past

-- where no leaf from a place on has an entry of the range, those before it have all
pub values_until : (width low high i : ℕ) (all : Stand) (pages : List ℕ) → values_within low high (entries_of width all (drop i pages)) ≡ []
    → values_within low high (entries_of width all pages) ≡ values_within low high (entries_of width all (take i pages))
values_until width low high i all pages none =
    let before = entries_of width all (take i pages) in
    let behind = entries_of width all (drop i pages) in
    ap (λ (x : List ℕ). values_within low high (entries_of width all x)) (sym (take-append-drop i pages))
    ∙ ap (values_within low high) (entries_of-append width all (take i pages) (drop i pages)) ∙ values_within-append low high before behind
    ∙ ap (λ (x : List ℕ). values_within low high before ++ x) none ∙ append-nil (values_within low high before)
