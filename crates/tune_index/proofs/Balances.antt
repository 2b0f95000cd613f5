-- How many free pages a run of entries asks for at most.
use Rattle.std.proofs.Common.{◌≡◌, ◌⊎◌, ℕ, zero, suc, ◌+◌, ◌<◌, ◌≤◌, List, [], ◌∷◌, ◌++◌, length, take, drop, ap, sym, ◌∙◌, arith, inl, inr}
use Rattle.std.proofs.lemmas.Bool.{cases_lt}
use Rattle.std.proofs.lemmas.List.{length-append, take-append-drop}
use Rattle.std.specs.Prelude.{slice_index_or}
use Rattle.tune_pages.specs.Stand.{Stand}
use Rattle.index_keys.specs.Entries.{Entry, EntriesRiseFrom, entry_inserted, inserted_all, rank}
use Rattle.index_keys.proofs.RisingEntries.{inserted_front, inserted_later, inserted_there}
use Rattle.tune_index.specs.Indexes.{IsIndex, Shape, entries_of}
use Rattle.tune_index.specs.Inside.LeafLists.{joined_leaves, leaves_of}
use Rattle.tune_index.specs.Inside.EntryPlaces.{AllBelow}
use Rattle.tune_index.specs.Leaves.{slice_entry}
use Rattle.tune_index.proofs.LeafLists.{leaves_of_index, length-leaves}
use Rattle.tune_index.proofs.Runs.{AllBegun, are_begun, inserted_all-append, run_middle}

-- ENTRIES THAT GO IN TAKE NONE OUT
inserted_least : (e : Entry) (es : List Entry) → length es ≤ length (entry_inserted e es)
inserted_least e [] = omega arith
inserted_least e (x ∷ xs) = elim (cases_lt (rank e) (rank x)) [
  | inl front ↦ (let s : length (entry_inserted e (x ∷ xs)) ≡ length (e ∷ x ∷ xs) = ap length (inserted_front e x xs front) in omega (arith, s))
  | inr rest ↦ elim (cases_lt (rank x) (rank e)) [
    | inl later ↦
        let s : length (entry_inserted e (x ∷ xs)) ≡ length (x ∷ entry_inserted e xs) = ap length (inserted_later e x xs later) in
        let r = inserted_least e xs in omega (arith, s, r)
    | inr there ↦
        let s : length (entry_inserted e (x ∷ xs)) ≡ length (x ∷ xs) = ap length (inserted_there e x xs (omega arith)) in omega (arith, s)
  ]
]

inserted_all_least : (run es : List Entry) → length es ≤ length (inserted_all run es)
inserted_all_least [] es = omega arith
inserted_all_least (e ∷ run) es =
    let one = inserted_least e es in
    let more = inserted_all_least run (entry_inserted e es) in
    omega (arith, one, more)

-- the rest of a run adds to its front
pub front_least : (count : ℕ) (run es : List Entry) → length (inserted_all (take count run) es) ≤ length (inserted_all run es)
front_least count run es =
    let both = inserted_all-append (take count run) (drop count run) es in
    let whole = ap (λ (x : List Entry). inserted_all x es) (take-append-drop count run) in
    let size = ap length (sym both ∙ whole) in
    let more = inserted_all_least (drop count run) (inserted_all (take count run) es) in
    omega (arith, size, more)

-- EACH LEAF HAS AN ENTRY
leaves_least : (leaves : List (List Entry)) → AllBegun leaves → length leaves ≤ length (joined_leaves leaves)
leaves_least [] b = omega arith
leaves_least (leaf ∷ leaves) b =
    let n : length leaf ≡ length (b.0.head ∷ b.0.rest) = ap length b.0.is in
    let r = leaves_least leaves b.1 in
    let a = length-append leaf (joined_leaves leaves) in
    omega (arith, n, r, a)

others_least : (leaves : List (List Entry)) (i : ℕ) → i < length leaves → AllBegun leaves
    → length leaves ≤ length (joined_leaves (take i leaves)) + 1 + length (joined_leaves (drop (suc i) leaves))
others_least [] i l b = absurd (omega arith)
others_least (leaf ∷ leaves) zero l b = let r = leaves_least leaves b.1 in omega (arith, r)
others_least (leaf ∷ leaves) (suc i) l b =
    let n : length leaf ≡ length (b.0.head ∷ b.0.rest) = ap length b.0.is in
    let r = others_least leaves i (omega arith) b.1 in
    let a = length-append leaf (joined_leaves (take i leaves)) in
    omega (arith, n, r, a)

-- THE FILE IS FULL FOR A PART OF A RUN
pub part_full : (width : ℕ) (old : Stand) (was : Shape) (i low free : ℕ) (run : List Entry) → IsIndex width old was → i < length was.pages
    → EntriesRiseFrom low run → (i ≡ 0) ⊎ (rank (slice_entry was.heads i) ≤ low)
    → (i + 1 < length was.pages → AllBelow (rank (slice_entry was.heads (i + 1))) run)
    → free + 1 < length (inserted_all run (slice_index_or (leaves_of width old was.pages) i []))
    → free + length was.pages < length (inserted_all run (entries_of width old was.pages))
part_full width old was i low free run ix l r from to full =
    let leaves = leaves_of width old was.pages in
    let are = leaves_of_index width old was ix in
    let n : length leaves ≡ length was.pages = length-leaves width old was leaves are in
    let others = others_least leaves i (omega (arith, l, n)) (are_begun width old was leaves are) in
    let here = inserted_all run (slice_index_or leaves i []) in
    let next : suc i ≡ i + 1 = omega arith in
    let behind : length (joined_leaves (drop (suc i) leaves))
    ≡ length (joined_leaves (drop (i + 1) leaves)) = ap (λ (k : ℕ). length (joined_leaves (drop k leaves))) next in
    let size = ap length (run_middle width old was i low run ix l r from to) in
    let first = length-append (joined_leaves (take i leaves)) (here ++ joined_leaves (drop (i + 1) leaves)) in
    let rest = length-append here (joined_leaves (drop (i + 1) leaves)) in
    omega (arith, n, others, behind, size, first, rest, full)
