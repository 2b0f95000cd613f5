-- One leaf is replaced: what the pages of an index stand for then.
use Rattle.std.proofs.Common.{◌≡◌, ◌≢◌, ℕ, zero, suc, ◌<◌, ◌≤◌, List, [], ◌∷◌, length, slice_index, refl, sym, ap, ◌∙◌, arith}
use Rattle.std.proofs.Common.{length-append, inl, inr}
use Rattle.std.proofs.lemmas.Bool.{cases_eq}
use Rattle.tune_pages.specs.Stand.{Stand}
use Rattle.tune_pages.specs.Frame.{mark_at, image_at, InUse, Puts, OthersKept}
use Rattle.tune_index.specs.Indexes.{entries_of, heads_of, AllLeaves}
use Rattle.tune_index.specs.Inside.EachPage.{HasEachPage}
use Rattle.tune_index.specs.Leaves.{leaf_in, IsLeaf}
use Rattle.tune_index.proofs.Ranges.{leaf_begun}

-- another page of the list is not the one at the place
pub other_page : (all : Stand) (p : ℕ) (ps : List ℕ) (i : ℕ) → HasEachPage all (p ∷ ps) → i < length ps → p ≢ slice_index ps i
other_page all p ps i h l = λ e. h.1 i l (sym e)

-- the leaves have their form, and the pages are in use and apart
put_others : (width : ℕ) (old new : Stand) (page : ℕ) (pages : List ℕ) → OthersKept old new page → ((k : ℕ) → k < length pages → slice_index pages k ≢ page)
    → AllLeaves width old pages → AllLeaves width new pages
put_others width old new page [] o d f = tt
put_others width old new page (p ∷ ps) o d f =
    let i : image_at new p ≡ image_at old p = (o p (d 0 (omega arith))).image in
    (rw i f.0, put_others width old new page ps o (λ k l. d (suc k) (omega arith)) f.1)

pub put_form : (width : ℕ) (old new : Stand) (bytes : List ℕ) (pages : List ℕ) (i : ℕ) → HasEachPage old pages → i < length pages
    → Puts old new (slice_index pages i) bytes → IsLeaf width bytes
    → AllLeaves width old pages → AllLeaves width new pages
put_form width old new bytes [] i h l p k f = absurd (omega arith)
put_form width old new bytes (q ∷ qs) zero h l p k f = (rw p.image k, put_others width old new q qs p.others h.1 f.1)
put_form width old new bytes (q ∷ qs) (suc i) h l p k f =
    let s : image_at new q ≡ image_at old q = (p.others q (other_page old q qs i h (omega arith))).image in
    (rw s f.0, put_form width old new bytes qs i h.2 (omega arith) p k f.1)

-- a page is in use as before
pub put_in_use : (old new : Stand) (page : ℕ) (bytes : List ℕ) (q : ℕ) → Puts old new page bytes → InUse old q → InUse new q
put_in_use old new page bytes q p u = elim (cases_eq q page) [
  | inl here ↦ record { flag = ap (λ (x : ℕ). mark_at new x) here ∙ p.used ∙ sym (ap (λ (x : ℕ). mark_at old x) here) ∙ u.flag; not_root = u.not_root }
  | inr other ↦ record { flag = (p.others q other).used ∙ u.flag; not_root = u.not_root }
]

pub put_pages : (old new : Stand) (page : ℕ) (bytes : List ℕ) (pages : List ℕ) → Puts old new page bytes → HasEachPage old pages → HasEachPage new pages
put_pages old new page bytes [] p h = tt
put_pages old new page bytes (q ∷ qs) p h = (put_in_use old new page bytes q p h.0, h.1, put_pages old new page bytes qs p h.2)

-- the leaf at a place, and its head
pub form_at : (width : ℕ) (all : Stand) (pages : List ℕ) (i : ℕ) → AllLeaves width all pages → i < length pages
    → IsLeaf width (image_at all (slice_index pages i))
form_at width all [] i f l = absurd (omega arith)
form_at width all (q ∷ qs) zero f l = f.0
form_at width all (q ∷ qs) (suc i) f l = form_at width all qs i f.1 (omega arith)

pub length-heads_of : (width : ℕ) (all : Stand) (pages : List ℕ) → length (heads_of width all pages) ≡ length pages
length-heads_of width all [] = refl
length-heads_of width all (q ∷ qs) = let e = length-heads_of width all qs in omega arith

-- no more leaves than entries
pub leaves_within : (width : ℕ) (all : Stand) (pages : List ℕ) → AllLeaves width all pages → length pages ≤ length (entries_of width all pages)
leaves_within width all [] f = omega arith
leaves_within width all (q ∷ qs) f =
    let b = leaf_begun width (image_at all q) f.0 in
    let n : length (leaf_in width (image_at all q)) ≡ length (b.head ∷ b.rest) = ap length b.is in
    let r = leaves_within width all qs f.1 in
    let a = length-append (leaf_in width (image_at all q)) (entries_of width all qs) in
    omega (arith, n, r, a)
