-- Two lists of pages, and the first entries of leaves in order.
use Rattle.std.proofs.Common.{◌≡◌, ℕ, ◌+◌, List, [], ◌∷◌, ◌++◌, refl, sym, ap, ◌∙◌, append_assoc, subst}
use Rattle.tune_pages.specs.Stand.{Stand}
use Rattle.tune_pages.specs.Frame.{image_at}
use Rattle.index_keys.specs.Entries.{Entry, rank, EntriesRiseFrom}
use Rattle.index_keys.proofs.RisingEntries.{rises_back}
use Rattle.tune_index.specs.Indexes.{entries_of, heads_of, AllLeaves}
use Rattle.tune_index.specs.Leaves.{slice_entry, leaf_in}
use Rattle.tune_index.proofs.Ranges.{leaf_begun}

-- two lists of pages
pub entries_of-append : (width : ℕ) (all : Stand) (xs ys : List ℕ) → entries_of width all (xs ++ ys) ≡ entries_of width all xs ++ entries_of width all ys
entries_of-append width all [] ys = refl
entries_of-append width all (x ∷ xs) ys = ap (λ (r : List Entry). leaf_in width (image_at all x) ++ r) (entries_of-append width all xs ys)
    ∙ sym (append_assoc (leaf_in width (image_at all x)) (entries_of width all xs) (entries_of width all ys))

-- the heads of an index rise, so that they can be searched
pub heads_rise : (width low : ℕ) (all : Stand) (pages : List ℕ) → AllLeaves width all pages → EntriesRiseFrom low (entries_of width all pages)
    → EntriesRiseFrom low (heads_of width all pages)
heads_rise width low all [] f r = tt
heads_rise width low all (q ∷ qs) f r =
    let leaf = leaf_in width (image_at all q) in
    let b = leaf_begun width (image_at all q) f.0 in
    let s : leaf ++ entries_of width all qs ≡ b.head ∷ (b.rest ++ entries_of width all qs) = ap (λ (x : List Entry). x ++ entries_of width all qs) b.is in
    let h : slice_entry leaf 0 ≡ b.head = ap (λ (x : List Entry). slice_entry x 0) b.is in
    let up : EntriesRiseFrom low (b.head ∷ (b.rest ++ entries_of width all qs)) = subst (λ (x : List Entry). EntriesRiseFrom low x) s r in
    let rest : EntriesRiseFrom (rank b.head + 1) (entries_of width all qs) = rises_back (rank b.head + 1) b.rest (entries_of width all qs) up.1 in
    let heads = heads_rise width (rank b.head + 1) all qs f.1 rest in
    subst (λ (x : Entry). EntriesRiseFrom low (x ∷ heads_of width all qs)) (sym h) (up.0, heads)
