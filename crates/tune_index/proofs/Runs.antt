-- Entries of a run that belong into one leaf.
use Rattle.std.proofs.Common.{◌≡◌, ℕ, zero, suc, ◌+◌, ◌<◌, ◌≤◌, ◌⊎◌, List, [], ◌∷◌, ◌++◌, length, take, drop, slice_index, refl, sym, ap, ◌∙◌, arith}
use Rattle.std.proofs.Common.{append_assoc, append-nil, inl, inr, subst}
use Rattle.std.specs.Prelude.{slice_index_or}
use Rattle.std.specs.List.{remove}
use Rattle.std.proofs.Math.Seq.{take-length}
use Rattle.std.proofs.lemmas.List.{get_or-drop}
use Rattle.std.proofs.lemmas.Bool.{cases_lt}
use Rattle.tune_pages.specs.Stand.{Stand}
use Rattle.tune_pages.specs.Frame.{image_at}
use Rattle.index_keys.specs.Entries.{Entry, rank, EntriesRiseFrom, IsRising, entry_inserted, removed, AllFit, inserted_all}
use Rattle.index_keys.proofs.RisingEntries.{inserted_all_fit, inserted_all_rises, inserted_later, removed-rises, removed_fit, removed_later, rises_back}
use Rattle.index_keys.proofs.RisingEntries.{rises_front, rises_lower}
use Rattle.tune_index.specs.Indexes.{AllLeaves, IsIndex, Shape, entries_of}
use Rattle.tune_index.specs.Inside.LeafLists.{HasLeaves, joined_leaves, firsts, leaves_of}
use Rattle.tune_index.specs.Inside.EntryPlaces.{IsPlace, AllBelow}
use Rattle.tune_index.specs.Leaves.{slice_entry, leaf_in}
use Rattle.tune_index.proofs.Lists.{inserted-before, removed-before}
use Rattle.tune_index.proofs.Ends.{inserted_end}
use Rattle.tune_index.proofs.Lists.{BeginsAfter}
use Rattle.tune_index.proofs.Ranges.{Begun, leaf_begun}
use Rattle.tune_index.proofs.LeafLists.{leaves_of_index, leaves_entries, index_of_leaves, length-leaves}

-- an entry past the first of two lists goes into the second
below_more : (r s : ℕ) (es : List Entry) → r ≤ s → AllBelow r es → AllBelow s es
below_more r s [] l b = tt
below_more r s (e ∷ es) l b = (let h = b.0 in omega arith, below_more r s es l b.1)

inserted_past : (xs ys : List Entry) (e : Entry) → AllBelow (rank e) xs → entry_inserted e (xs ++ ys) ≡ xs ++ entry_inserted e ys
inserted_past [] ys e b = refl
inserted_past (x ∷ xs) ys e b = inserted_later e x (xs ++ ys) b.0 ∙ ap (λ (z : List Entry). x ∷ z) (inserted_past xs ys e b.1)

-- a run that goes between what stands before and what stands after
abbrev AllBefore : List Entry → List Entry → Type 0
AllBefore [] after = Unit {0}
AllBefore (e ∷ es) after = BeginsAfter (rank e) after × AllBefore es after

inserted_middle : (low : ℕ) (before leaf after run : List Entry) → AllBelow low before → EntriesRiseFrom low run → AllBefore run after
    → inserted_all run (before ++ (leaf ++ after)) ≡ before ++ (inserted_all run leaf ++ after)
inserted_middle low before leaf after [] b r a = refl
inserted_middle low before leaf after (e ∷ run) b r a =
    let here : AllBelow (rank e) before = below_more low (rank e) before r.0 b in
    let one : entry_inserted e (before ++ (leaf ++ after)) ≡ before ++ (entry_inserted e leaf ++ after) = inserted_past before (leaf ++ after) e here
    ∙ ap (λ (x : List Entry). before ++ x) (inserted-before leaf after e a.0) in
    ap (inserted_all run) one
    ∙ inserted_middle (rank e + 1) before (entry_inserted e leaf) after run (below_more (rank e) (rank e + 1) before (omega arith) here) r.1 a.1

pub inserted_all-append : (xs ys es : List Entry) → inserted_all (xs ++ ys) es ≡ inserted_all ys (inserted_all xs es)
inserted_all-append [] ys es = refl
inserted_all-append (x ∷ xs) ys es = inserted_all-append xs ys (entry_inserted x es)

-- what stands before a place, and what is before the next leaf
below_nothing : (r i : ℕ) → AllBelow r (take i [])
below_nothing r zero = tt
below_nothing r (suc i) = tt

pub below_place : (r : ℕ) (es : List Entry) (i : ℕ) → IsPlace r es i → AllBelow r (take i es)
below_place r [] i p = below_nothing r i
below_place r (e ∷ es) zero p = tt
below_place r (e ∷ es) (suc i) p = (
  p.smaller_before 0 e (omega arith),
  below_place r es i (record {
    in_range = let h = p.in_range in omega arith;
    smaller_before = λ k d h. p.smaller_before (suc k) d (omega arith);
    others_after = λ k d h l. p.others_after (suc k) d (omega arith) (omega arith);
  }),
)

all_before : (r : ℕ) (run after : List Entry) → AllBelow r run → (0 < length after → r ≤ rank (slice_entry after 0)) → AllBefore run after
all_before r [] after b h = tt
all_before r (e ∷ run) [] b h = (tt, all_before r run [] b.1 h)
all_before r (e ∷ run) (z ∷ zs) b h = (let k = h (omega arith) in let l = b.0 in omega arith, all_before r run (z ∷ zs) b.1 h)

none_before : (run : List Entry) → AllBefore run []
none_before [] = tt
none_before (e ∷ run) = (tt, none_before run)

-- what stands before an entry of a list that rises is below it
at_least : (low : ℕ) (xs : List Entry) (y : Entry) (ys : List Entry) → EntriesRiseFrom low (xs ++ y ∷ ys) → low ≤ rank y
at_least low [] y ys r = r.0
at_least low (x ∷ xs) y ys r = let m = at_least (rank x + 1) xs y ys r.1 in let h = r.0 in omega arith

rises_below : (low : ℕ) (xs : List Entry) (y : Entry) (ys : List Entry) → EntriesRiseFrom low (xs ++ y ∷ ys) → AllBelow (rank y) xs
rises_below low [] y ys r = tt
rises_below low (x ∷ xs) y ys r = (let m = at_least (rank x + 1) xs y ys r.1 in omega arith, rises_below (rank x + 1) xs y ys r.1)

-- each row has an entry
abbrev pub AllBegun : List (List Entry) → Type 0
AllBegun [] = Unit {0}
AllBegun (r ∷ leaves) = Begun r × AllBegun leaves

leaves_begun : (width : ℕ) (all : Stand) (pages : List ℕ) → AllLeaves width all pages → AllBegun (leaves_of width all pages)
leaves_begun width all [] f = tt
leaves_begun width all (p ∷ ps) f = (leaf_begun width (image_at all p) f.0, leaves_begun width all ps f.1)

pub are_begun : (width : ℕ) (all : Stand) (shape : Shape) (leaves : List (List Entry)) → HasLeaves width all shape leaves → AllBegun leaves
are_begun width all shape leaves h = subst (λ (x : List (List Entry)). AllBegun x) h.are (leaves_begun width all shape.pages h.form)

-- leaves before a place, at it and after it
joined_at : (leaves : List (List Entry)) (i : ℕ) → i < length leaves
    → joined_leaves leaves ≡ joined_leaves (take i leaves) ++ (slice_index_or leaves i [] ++ joined_leaves (drop (suc i) leaves))
joined_at [] i l = absurd (omega arith)
joined_at (r ∷ leaves) zero l = refl
joined_at (r ∷ leaves) (suc i) l = ap (λ (x : List Entry). r ++ x) (joined_at leaves i (omega arith))
    ∙ sym (append_assoc r (joined_leaves (take i leaves)) (slice_index_or leaves i [] ++ joined_leaves (drop (suc i) leaves)))

first_of_joined : (leaves : List (List Entry)) → AllBegun leaves → slice_entry (firsts leaves) 0 ≡ slice_entry (joined_leaves leaves) 0
first_of_joined [] b = refl
first_of_joined (r ∷ leaves) b = ap (λ (x : List Entry). slice_entry x 0) b.0.is
    ∙ sym (ap (λ (x : List Entry). slice_entry (x ++ joined_leaves leaves) 0) b.0.is)

firsts-drop : (leaves : List (List Entry)) (i : ℕ) → firsts (drop i leaves) ≡ drop i (firsts leaves)
firsts-drop [] zero = refl
firsts-drop [] (suc i) = refl
firsts-drop (r ∷ leaves) zero = refl
firsts-drop (r ∷ leaves) (suc i) = firsts-drop leaves i

begun-drop : (leaves : List (List Entry)) (i : ℕ) → AllBegun leaves → AllBegun (drop i leaves)
begun-drop [] zero b = tt
begun-drop [] (suc i) b = tt
begun-drop (r ∷ leaves) zero b = b
begun-drop (r ∷ leaves) (suc i) b = begun-drop leaves i b.1

begun_at : (leaves : List (List Entry)) (i : ℕ) → i < length leaves → AllBegun leaves → Begun (slice_index_or leaves i [])
begun_at [] i l b = absurd (omega arith)
begun_at (r ∷ leaves) zero l b = b.0
begun_at (r ∷ leaves) (suc i) l b = begun_at leaves i (omega arith) b.1

first_at : (leaves : List (List Entry)) (i : ℕ) → i < length leaves → slice_entry (firsts leaves) i ≡ slice_entry (slice_index_or leaves i []) 0
first_at [] i l = absurd (omega arith)
first_at (r ∷ leaves) zero l = refl
first_at (r ∷ leaves) (suc i) l = first_at leaves i (omega arith)

drop_none : {X : Type 0} (xs : List X) (i : ℕ) → length xs ≤ i → drop i xs ≡ []
drop_none [] zero l = refl
drop_none [] (suc i) l = refl
drop_none (x ∷ xs) zero l = absurd (omega arith)
drop_none (x ∷ xs) (suc i) l = drop_none xs i (omega arith)

below_leaf : (low : ℕ) (leaves : List (List Entry)) (i : ℕ) → i < length leaves → AllBegun leaves → IsRising (joined_leaves leaves)
    → (i ≡ 0) ⊎ (rank (slice_entry (firsts leaves) i) ≤ low) → AllBelow low (joined_leaves (take i leaves))
below_leaf low leaves i l b up (inl e) = subst (λ (k : ℕ). AllBelow low (joined_leaves (take k leaves))) (sym e) tt
below_leaf low leaves i l b up (inr h) =
    let leaf = slice_index_or leaves i [] in
    let w = begun_at leaves i l b in
    let before = joined_leaves (take i leaves) in
    let after = joined_leaves (drop (suc i) leaves) in
    let whole : IsRising (before ++ (leaf ++ after)) = subst (λ (x : List Entry). IsRising x) (joined_at leaves i l) up in
    let s : EntriesRiseFrom 0 (before ++ (w.head ∷ (w.rest ++ after))) = subst (λ (x : List Entry). EntriesRiseFrom 0 (before ++ (x ++ after))) w.is whole in
    let k : slice_entry (firsts leaves) i ≡ w.head = first_at leaves i l ∙ ap (λ (x : List Entry). slice_entry x 0) w.is in
    let m : rank w.head ≤ low = subst (λ (x : Entry). rank x ≤ low) k h in
    below_more (rank w.head) low before m (rises_below 0 before w.head (w.rest ++ after) s)

above_leaf : (leaves : List (List Entry)) (i : ℕ) (run : List Entry) → AllBegun leaves
    → (i + 1 < length leaves → AllBelow (rank (slice_entry (firsts leaves) (i + 1))) run) → AllBefore run (joined_leaves (drop (i + 1) leaves))
above_leaf leaves i run b h = elim (cases_lt (i + 1) (length leaves)) [
  | inl more ↦
      let first : slice_entry (joined_leaves (drop (i + 1) leaves)) 0 ≡ slice_entry (firsts leaves) (i + 1) =
      sym (first_of_joined (drop (i + 1) leaves) (begun-drop leaves (i + 1) b)) ∙ ap (λ (x : List Entry). slice_entry x 0) (firsts-drop leaves (i + 1))
      ∙ get_or-drop (i + 1) (firsts leaves) 0 (0, 0) ∙ ap (λ (k : ℕ). slice_entry (firsts leaves) k) (omega arith) in
      all_before (rank (slice_entry (firsts leaves) (i + 1))) run (joined_leaves (drop (i + 1) leaves)) (h more)
      (λ _. let e : rank (slice_entry (joined_leaves (drop (i + 1) leaves)) 0) ≡ rank (slice_entry (firsts leaves) (i + 1)) = ap rank first in omega arith)
  | inr none ↦ subst (λ (x : List (List Entry)). AllBefore run (joined_leaves x)) (sym (drop_none leaves (i + 1) none)) (none_before run)
]

-- THE ENTRIES OF AN INDEX after a run went into the leaf where it belongs
pub run_middle : (width : ℕ) (old : Stand) (was : Shape) (i low : ℕ) (run : List Entry) → IsIndex width old was → i < length was.pages
    → EntriesRiseFrom low run → (i ≡ 0) ⊎ (rank (slice_entry was.heads i) ≤ low)
    → (i + 1 < length was.pages → AllBelow (rank (slice_entry was.heads (i + 1))) run)
    → joined_leaves (take i (leaves_of width old was.pages))
    ++ (inserted_all run (slice_index_or (leaves_of width old was.pages) i []) ++ joined_leaves (drop (i + 1) (leaves_of width old was.pages)))
    ≡ inserted_all run (entries_of width old was.pages)
run_middle width old was i low run ix l r from to =
    let leaves = leaves_of width old was.pages in
    let are = leaves_of_index width old was ix in
    let n : length leaves ≡ length was.pages = length-leaves width old was leaves are in
    let b = are_begun width old was leaves are in
    let entries : entries_of width old was.pages ≡ joined_leaves leaves = leaves_entries width old was leaves are in
    let up : IsRising (joined_leaves leaves) = subst (λ (x : List Entry). IsRising x) entries ix.rising in
    let heads : was.heads ≡ firsts leaves = are.heads in
    let from2 : (i ≡ 0) ⊎ (rank (slice_entry (firsts leaves) i) ≤ low) = subst (λ (x : List Entry). (i ≡ 0) ⊎ (rank (slice_entry x i) ≤ low)) heads from in
    let to2 : i + 1 < length leaves → AllBelow (rank (slice_entry (firsts leaves) (i + 1))) run =
    λ m. subst (λ (x : List Entry). AllBelow (rank (slice_entry x (i + 1))) run) heads (to (omega (arith, m, n))) in
    let li : i < length leaves = omega (arith, l, n) in
    let below = below_leaf low leaves i li b up from2 in
    let above = above_leaf leaves i run b to2 in
    let s : suc i ≡ i + 1 = omega arith in
    let whole : joined_leaves leaves ≡ joined_leaves (take i leaves) ++ (slice_index_or leaves i [] ++ joined_leaves (drop (i + 1) leaves)) =
    subst (λ (k : ℕ). joined_leaves leaves ≡ joined_leaves (take i leaves) ++ (slice_index_or leaves i [] ++ joined_leaves (drop k leaves))) s
    (joined_at leaves i li) in
    sym (inserted_middle low (joined_leaves (take i leaves)) (slice_index_or leaves i []) (joined_leaves (drop (i + 1) leaves)) run below r above)
    ∙ ap (inserted_all run) (sym whole) ∙ ap (inserted_all run) (sym entries)

pub run_inserted : (width : ℕ) (old new : Stand) (was is : Shape) (i low : ℕ) (run : List Entry) (more : List (List Entry)) → IsIndex width old was
    → i < length was.pages
    → EntriesRiseFrom low run → AllFit width run → (i ≡ 0) ⊎ (rank (slice_entry was.heads i) ≤ low)
    → (i + 1 < length was.pages → AllBelow (rank (slice_entry was.heads (i + 1))) run)
    → HasLeaves width new is more
    → joined_leaves more ≡ joined_leaves (take i (leaves_of width old was.pages))
    ++ (inserted_all run (slice_index_or (leaves_of width old was.pages) i []) ++ joined_leaves (drop (i + 1) (leaves_of width old was.pages)))
    → IsIndex width new is × (entries_of width new is.pages ≡ inserted_all run (entries_of width old was.pages))
run_inserted width old new was is i low run more ix l r fit from to h e =
    let put : joined_leaves more ≡ inserted_all run (entries_of width old was.pages) = e ∙ run_middle width old was i low run ix l r from to in
    let up2 : IsRising (joined_leaves more) = subst (λ (x : List Entry). IsRising x) (sym put)
    (inserted_all_rises run (entries_of width old was.pages) ix.rising) in
    let fit2 : AllFit width (joined_leaves more) =
    subst (λ (x : List Entry). AllFit width x) (sym put) (inserted_all_fit width run (entries_of width old was.pages) fit ix.fit) in
    (index_of_leaves width new is more h up2 fit2, leaves_entries width new is more h ∙ put)

-- a list that rises, from its first entry on
pub rises_from_first : (low : ℕ) (es : List Entry) → (0 < length es → low ≤ rank (slice_entry es 0)) → IsRising es → EntriesRiseFrom low es
rises_from_first low [] h r = tt
rises_from_first low (e ∷ es) h r = (h (omega arith), r.1)

-- a leaf of an index rises
leaf_rises_from : (low width : ℕ) (all : Stand) (pages : List ℕ) (i : ℕ) → i < length pages → EntriesRiseFrom low (entries_of width all pages)
    → EntriesRiseFrom 0 (slice_index_or (leaves_of width all pages) i [])
leaf_rises_from low width all [] i l r = absurd (omega arith)
leaf_rises_from low width all (p ∷ ps) zero l r =
    rises_lower 0 low (leaf_in width (image_at all p)) (omega arith) (rises_front low (leaf_in width (image_at all p)) (entries_of width all ps) r)
leaf_rises_from low width all (p ∷ ps) (suc i) l r =
    leaf_rises_from low width all ps i (omega arith) (rises_back low (leaf_in width (image_at all p)) (entries_of width all ps) r)

pub leaf_rises : (width : ℕ) (all : Stand) (pages : List ℕ) (i : ℕ) → i < length pages → IsRising (entries_of width all pages)
    → IsRising (slice_index_or (leaves_of width all pages) i [])
leaf_rises width all pages i l up = leaf_rises_from 0 width all pages i l up

-- the leaf at a place
pub leaf_at : (width : ℕ) (all : Stand) (pages : List ℕ) (i : ℕ) → i < length pages
    → slice_index_or (leaves_of width all pages) i [] ≡ leaf_in width (image_at all (slice_index pages i))
leaf_at width all [] i l = absurd (omega arith)
leaf_at width all (p ∷ ps) zero l = refl
leaf_at width all (p ∷ ps) (suc i) l = leaf_at width all ps i (omega arith)

-- the leaf in an image that was read from the page at a place
pub read_leaf_at : (width : ℕ) (all : Stand) (shape : Shape) (leaves : List (List Entry)) (i page : ℕ) (image : List ℕ) → i < length shape.pages
    → page ≡ slice_index shape.pages i → image ≡ image_at all page → HasLeaves width all shape leaves → leaf_in width image ≡ slice_index_or leaves i []
read_leaf_at width all shape leaves i page image l at read h =
    ap (leaf_in width) read ∙ ap (λ (x : ℕ). leaf_in width (image_at all x)) at ∙ sym (leaf_at width all shape.pages i l)
    ∙ ap (λ (x : List (List Entry)). slice_index_or x i []) h.are

-- AN ENTRY TAKEN OUT
removed_past : (xs ys : List Entry) (e : Entry) → AllBelow (rank e) xs → removed e (xs ++ ys) ≡ xs ++ removed e ys
removed_past [] ys e b = refl
removed_past (x ∷ xs) ys e b = let h = b.0 in removed_later e x (xs ++ ys) (omega arith) ∙ ap (λ (z : List Entry). x ∷ z) (removed_past xs ys e b.1)

begins_after : (r : ℕ) (zs : List Entry) → BeginsAfter r zs → IsRising zs → EntriesRiseFrom (r + 1) zs
begins_after r [] b up = tt
begins_after r (z ∷ zs) b up = (omega arith, up.1)

removed_middle : (before leaf after : List Entry) (e : Entry) → AllBelow (rank e) before → IsRising after → BeginsAfter (rank e) after
    → removed e (before ++ (leaf ++ after)) ≡ before ++ (removed e leaf ++ after)
removed_middle before leaf after e b up a =
    removed_past before (leaf ++ after) e b
    ∙ ap (λ (x : List Entry). before ++ x) (removed-before (rank e + 1) leaf after e (begins_after (rank e) after a up) (omega arith))

joined-append : (xs ys : List (List Entry)) → joined_leaves (xs ++ ys) ≡ joined_leaves xs ++ joined_leaves ys
joined-append [] ys = refl
joined-append (x ∷ xs) ys = ap (λ (z : List Entry). x ++ z) (joined-append xs ys) ∙ sym (append_assoc x (joined_leaves xs) (joined_leaves ys))

pub entry_removed : (width : ℕ) (old new : Stand) (was is : Shape) (i : ℕ) (e : Entry) (more : List (List Entry)) → IsIndex width old was → i < length was.pages
    → (i ≡ 0) ⊎ (rank (slice_entry was.heads i) ≤ rank e) → (i + 1 < length was.pages → rank e < rank (slice_entry was.heads (i + 1)))
    → HasLeaves width new is more
    → joined_leaves more ≡ joined_leaves (take i (leaves_of width old was.pages))
    ++ (removed e (slice_index_or (leaves_of width old was.pages) i []) ++ joined_leaves (drop (i + 1) (leaves_of width old was.pages)))
    → IsIndex width new is × (entries_of width new is.pages ≡ removed e (entries_of width old was.pages))
entry_removed width old new was is i e more ix l from to h eq =
    let leaves = leaves_of width old was.pages in
    let are = leaves_of_index width old was ix in
    let n : length leaves ≡ length was.pages = length-leaves width old was leaves are in
    let b = are_begun width old was leaves are in
    let entries : entries_of width old was.pages ≡ joined_leaves leaves = leaves_entries width old was leaves are in
    let up : IsRising (joined_leaves leaves) = subst (λ (x : List Entry). IsRising x) entries ix.rising in
    let all_fit : AllFit width (joined_leaves leaves) = subst (λ (x : List Entry). AllFit width x) entries ix.fit in
    let heads : was.heads ≡ firsts leaves = are.heads in
    let from2 : (i ≡ 0) ⊎ (rank (slice_entry (firsts leaves) i) ≤ rank e) =
    subst (λ (x : List Entry). (i ≡ 0) ⊎ (rank (slice_entry x i) ≤ rank e)) heads from in
    let to2 : i + 1 < length leaves → AllBelow (rank (slice_entry (firsts leaves) (i + 1))) (e ∷ []) =
    λ m. (subst (λ (x : List Entry). rank e < rank (slice_entry x (i + 1))) heads (to (omega (arith, m, n))), tt) in
    let li : i < length leaves = omega (arith, l, n) in
    let below = below_leaf (rank e) leaves i li b up from2 in
    let above : AllBefore (e ∷ []) (joined_leaves (drop (i + 1) leaves)) = above_leaf leaves i (e ∷ []) b to2 in
    let s : suc i ≡ i + 1 = omega arith in
    let whole : joined_leaves leaves ≡ joined_leaves (take i leaves) ++ (slice_index_or leaves i [] ++ joined_leaves (drop (i + 1) leaves)) =
    subst (λ (k : ℕ). joined_leaves leaves ≡ joined_leaves (take i leaves) ++ (slice_index_or leaves i [] ++ joined_leaves (drop k leaves))) s
    (joined_at leaves i li) in
    let after_up : IsRising (joined_leaves (drop (i + 1) leaves)) =
    rises_back 0 (slice_index_or leaves i []) (joined_leaves (drop (i + 1) leaves))
    (rises_back 0 (joined_leaves (take i leaves)) (slice_index_or leaves i [] ++ joined_leaves (drop (i + 1) leaves))
    (subst (λ (x : List Entry). IsRising x) whole up))
    in
    let put : joined_leaves more ≡ removed e (joined_leaves leaves) = eq
    ∙ sym (removed_middle (joined_leaves (take i leaves)) (slice_index_or leaves i []) (joined_leaves (drop (i + 1) leaves)) e below after_up above.0)
    ∙ ap (removed e) (sym whole) in
    let up2 : IsRising (joined_leaves more) = subst (λ (x : List Entry). IsRising x) (sym put) (removed-rises 0 (joined_leaves leaves) e up) in
    let fit2 : AllFit width (joined_leaves more) = subst (λ (x : List Entry). AllFit width x) (sym put) (removed_fit width (joined_leaves leaves) e all_fit) in
    (index_of_leaves width new is more h up2 fit2, leaves_entries width new is more h ∙ put ∙ ap (removed e) (sym entries))

-- THE FIRST LEAVES
pub none_at_all : {X : Type 0} (xs : List X) → length xs ≤ 0 → xs ≡ []
none_at_all [] l = refl
none_at_all (x ∷ xs) l = absurd (omega arith)

-- entries that rise go in one behind another
below_push : (r : ℕ) (es : List Entry) (e : Entry) → AllBelow r es → rank e < r → AllBelow r (es ++ e ∷ [])
below_push r [] e b l = (l, tt)
below_push r (x ∷ xs) e b l = (b.0, below_push r xs e b.1 l)

inserted_behind : (low : ℕ) (before run : List Entry) → AllBelow low before → EntriesRiseFrom low run → inserted_all run before ≡ before ++ run
inserted_behind low before [] b r = sym (append-nil before)
inserted_behind low before (e ∷ run) b r =
    let here : AllBelow (rank e) before = below_more low (rank e) before r.0 b in
    let one : entry_inserted e before ≡ before ++ e ∷ [] = inserted_end before e here in
    ap (inserted_all run) one
    ∙ inserted_behind (rank e + 1) (before ++ e ∷ []) run
    (below_push (rank e + 1) before e (below_more (rank e) (rank e + 1) before (omega arith) here) (omega arith)) r.1
    ∙ append_assoc before (e ∷ []) run

pub inserted_in_none : (run : List Entry) → IsRising run → inserted_all run [] ≡ run
inserted_in_none run up = inserted_behind 0 [] run tt up

pub first_leaves : (width : ℕ) (old new : Stand) (was is : Shape) (run : List Entry) (more : List (List Entry)) → IsRising run → AllFit width run
    → length was.pages ≤ 0 → HasLeaves width new is more → joined_leaves more ≡ run
    → IsIndex width new is × (entries_of width new is.pages ≡ inserted_all (take (length run) run) (entries_of width old was.pages))
first_leaves width old new was is run more up fit n h e =
    let none : was.pages ≡ [] = none_at_all was.pages n in
    let all : inserted_all (take (length run) run) (entries_of width old was.pages) ≡ run =
    ap (λ (ps : List ℕ). inserted_all (take (length run) run) (entries_of width old ps)) none
    ∙ ap (λ (x : List Entry). inserted_all x []) (take-length run) ∙ inserted_in_none run up in (
      index_of_leaves width new is more h (subst (λ (x : List Entry). IsRising x) (sym e) up) (subst (λ (x : List Entry). AllFit width x) (sym e) fit),
      leaves_entries width new is more h ∙ e ∙ sym all,
    )

-- A LEAF THAT LOST AN ENTRY
pub drop_done : (leaves : List (List Entry)) (i : ℕ) (gone : List Entry) → gone ≡ []
    → joined_leaves (remove leaves i) ≡ joined_leaves (take i leaves) ++ (gone ++ joined_leaves (drop (i + 1) leaves))
drop_done leaves i gone e =
    let s : suc i ≡ i + 1 = omega arith in
    joined-append (take i leaves) (drop (suc i) leaves) ∙ ap (λ (k : ℕ). joined_leaves (take i leaves) ++ joined_leaves (drop k leaves)) s
    ∙ ap (λ (x : List Entry). joined_leaves (take i leaves) ++ (x ++ joined_leaves (drop (i + 1) leaves))) (sym e)
