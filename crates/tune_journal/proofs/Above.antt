-- For the crates above: what an opening keeps, and what changes make of a page.
use Rattle.std.proofs.Common.{◌≡◌, ◌≢◌, inl, inr, ℕ, ◌-◌, ◌<◌, ◌≤◌, List, [], ◌∷◌, ◌++◌, length, get_or, map, replicate, set, Some, None, refl, sym, ◌∙◌, ap}
use Rattle.std.proofs.Common.{subst, arith, length-append}
use Rattle.std.proofs.lemmas.List.{get_or-set_same, get_or-set_other, get_or_append_left, length-set, length-replicate}
use Rattle.std.specs.List.Sorted.{IsStrictlyIncreasing}
use Rattle.std.proofs.lemmas.Bool.Decides.{nat_tests}
use Rattle.std.proofs.lemmas.Bool.{cases_eq}
use Rattle.tune_disk.specs.Disk.{DiskState, MayLeave}
use Rattle.tune_disk.specs.Stops.{LeavesOnly, SinceThen}
use Rattle.tune_disk.proofs.Moments.{since_weaker}
use Rattle.tune_journal.specs.ChangeList.{image_of}
use Rattle.tune_journal.specs.Image.{StandsFor, gate_of}
use Rattle.tune_journal.specs.Inside.ChangeOrder.{AreAbove, PagesRise}
use Rattle.tune_journal.specs.FileOffsets.{gate_open}
use Rattle.tune_journal.specs.Moments.{LeftOrSame}
use Rattle.tune_journal.specs.Pages.{page_at, changed_pages, pages_after}
use Rattle.tune_journal.proofs.ChangeLists.{rises_from_increasing, image_of_none}
use Rattle.tune_journal.proofs.Changed.{length-changed}

-- A file stands for one list of pages at most.
pub stands_once : (a b : List (List ℕ)) (file : List ℕ) → StandsFor a file → StandsFor b file → a ≡ b
stands_once a b file s t = elim (cases_eq (gate_of file) gate_open) [
  | inl is ↦ (s.is_open is).1 ∙ sym (t.is_open is).1
  | inr shut ↦ (s.is_closed shut).1 ∙ sym (t.is_closed shut).1
]

-- the file stands for a list of pages of this kind
abbrev pub StandsForSome : (List (List ℕ) → Type 0) → List ℕ → Type 0
StandsForSome Q file = (pages : List (List ℕ)) × StandsFor pages file × Q pages

-- Where each file that a stop may leave at first stands for pages of one kind, so does each during an opening.
pub opening_keeps : (Q : List (List ℕ) → Type 0) (old new : DiskState) → MayLeave old.now old.seen → SinceThen old new (LeftOrSame old)
    → LeavesOnly old.now (StandsForSome Q) → SinceThen old new (StandsForSome Q)
opening_keeps Q old new stays since leaves = since_weaker (LeftOrSame old) (StandsForSome Q) (λ c left. each c left) old new since
  where
    each : (c : List ℕ) → LeftOrSame old c → StandsForSome Q c
    each c (inl left) = leaves c left
    each c (inr it) = (let at_first : StandsForSome Q old.seen = leaves old.seen stays in
        (it.0, it.2, subst Q (stands_once at_first.0 it.0 old.seen at_first.1 it.1) at_first.2))

-- a page that is not among the changes
unnamed : (p q : ℕ) (image : List ℕ) (changes : List (ℕ × List ℕ)) → image_of p ((q, image) ∷ changes) ≡ None → (p ≢ q) × (image_of p changes ≡ None)
unnamed p q image changes none = elim (cases_eq p q) [
  | inl same ↦ (let found : image_of p ((q, image) ∷ changes)
      ≡ Some image = grind (arith, nat_tests, same) in absurd (let e : Some image ≡ None = sym found ∙ none in cc))
  | inr other ↦ (other, grind (arith, nat_tests, other, none))
]

pub page_kept : (pages : List (List ℕ)) (changes : List (ℕ × List ℕ)) (p : ℕ) → image_of p changes ≡ None → page_at (changed_pages pages changes) p
    ≡ page_at pages p
page_kept pages [] p none = refl
page_kept pages ((q, image) ∷ changes) p none =
    let here = unnamed p q image changes none in
    page_kept (set pages q image) changes p here.1 ∙ get_or-set_other pages q p image [] here.0

pub length-pages_after : (pages : List (List ℕ)) (m : ℕ) (changes : List (ℕ × List ℕ)) → length pages ≤ m → length (pages_after pages m changes) ≡ m
length-pages_after pages m changes le =
    length-changed (pages ++ replicate (m - length pages) []) changes
    ∙ omega (arith, le, length-append pages (replicate (m - length pages) []), length-replicate {A = List ℕ})

-- an old page that a commit does not name stays
pub page_kept_after : (pages : List (List ℕ)) (m : ℕ) (changes : List (ℕ × List ℕ)) (p : ℕ) → p < length pages → image_of p changes ≡ None
    → page_at (pages_after pages m changes) p ≡ page_at pages p
page_kept_after pages m changes p lt none =
    page_kept (pages ++ replicate (m - length pages) []) changes p none ∙ get_or_append_left pages (replicate (m - length pages) []) [] p lt

-- a page that the changes name has its image among these pages with them
pub changed_at : (pages : List (List ℕ)) (changes : List (ℕ × List ℕ)) (p : ℕ) (image : List ℕ) → PagesRise changes → p < length pages
    → image_of p changes ≡ Some image → page_at (changed_pages pages changes) p ≡ image
changed_at pages [] p image rises lt some = absurd (let e = some in cc)
changed_at pages ((q, i) ∷ rest) p image rises lt some = elim (cases_eq p q) [
  | inl same ↦ (let found : image_of p ((q, i) ∷ rest) ≡ Some i = grind (arith, nat_tests, same) in
      let e : Some i ≡ Some image = sym found ∙ some in
      let is : i ≡ image = cc in
      let none : image_of p rest ≡ None = image_of_none p rest (subst (λ (n : ℕ). AreAbove n rest) (sym same) rises.0) in
      page_kept (set pages q i) rest p none ∙ ap (λ (n : ℕ). get_or (set pages q i) n []) same ∙ get_or-set_same pages q i [] (omega (arith, same, lt)) ∙ is)
  | inr other ↦ changed_at (set pages q i) rest p image rises.1 (omega (arith, lt, length-set pages q i)) (grind (arith, nat_tests, other, some))
]

-- a page that a commit names has its new image
pub page_changed_after : (pages : List (List ℕ)) (m : ℕ) (changes : List (ℕ × List ℕ)) (p : ℕ) (image : List ℕ) → IsStrictlyIncreasing (map (λ c. c.0) changes)
    → length pages ≤ m → p < m → image_of p changes ≡ Some image
    → page_at (pages_after pages m changes) p ≡ image
page_changed_after pages m changes p image rising le lt some =
    changed_at (pages ++ replicate (m - length pages) []) changes p image (rises_from_increasing changes rising)
    (omega (arith, le, lt, length-append pages (replicate (m - length pages) []), length-replicate {A = List ℕ})) some
