-- What a `Work` makes of the pages that it was begun on.
use Rattle.std.specs.Prelude.{◌≡◌, ◌≢◌, ℕ, ◌<◌, ◌≤◌, max, List, [], ◌∷◌, ◌++◌, Bool, true, false}
use Rattle.std.specs.Prelude.{length, map, replicate, drop, All, IsSome}
use Rattle.std.specs.List.Sorted.{IsStrictlyIncreasing}
use Rattle.tune_journal.specs.ChangeList.{image_of}
use Rattle.tune_journal.specs.Pages.{pages_after}
use Rattle.tune_pages.specs.Kept.{Kept}
use Rattle.tune_pages.specs.Stand.{Stand, IsUsed, AllUsed, marked}
use Rattle.tune_pages.specs.declared.work.Work.{Work}

-- all pages below n, and those of the table behind
abbrev pub front_in_use : ℕ → List Bool → List Bool
front_in_use n used = replicate n true ++ drop n used

-- all pages below the frontier and those in use behind it, but for the freed ones
abbrev pub used_in : List Bool → Work → List Bool
used_in used w = marked false w.freed.items (front_in_use w.frontier used)

-- how many pages there will be
abbrev pub page_count_in : List (List ℕ) → Work → ℕ
page_count_in pages w = max (length pages) w.frontier

-- the pages with what changes, and their use
unfoldable pub stand_on : List (List ℕ) → List Bool → Work → Stand
stand_on pages used w = record {
  pages = pages_after pages (page_count_in pages w) w.changes;
  used = used_in used w;
}

-- What a work on these pages stands for: the pages that `finish` would make of them, and which of
-- these are in use.
abbrev pub stand : {D : Type 0} → Kept D → Work → Stand
stand kept w = stand_on kept.pages kept.used w

-- each page is above all that follow it
abbrev pub Falls : List ℕ → Type 0
Falls [] = Unit {0}
Falls (p ∷ ps) = All (λ q. q < p) ps × Falls ps

-- The root is in use, and each page in use is there; the changes are those of a commit, and the
-- freed pages were in use.
pub record FitsOn (pages : List (List ℕ)) (used : List Bool) (w : Work) : Type 0 where
  pub root : IsUsed used 0
  pub inside : (p : ℕ) → IsUsed used p → p < length pages
  pub within : w.frontier ≤ length used
  pub rising : IsStrictlyIncreasing (map (λ c. c.0) w.changes)
  pub below : All (λ c. c.0 < page_count_in pages w) w.changes
  pub names : (p : ℕ) → length pages ≤ p → p < page_count_in pages w → IsSome (image_of p w.changes)
  pub falls : Falls w.freed.items
  pub freed : AllUsed w.freed.items (front_in_use w.frontier used)
  pub no_root : All (λ p. p ≢ 0) w.freed.items

-- The work was begun on these pages, no other was finished on them since, and no call with it was
-- refused.
abbrev pub Fits : {D : Type 0} → Kept D → Work → Type 0
Fits kept w = FitsOn kept.pages kept.used w

-- It changes no page, so that its `finish` asks nothing of the disk.
abbrev pub IsIdle : Work → Type 0
IsIdle w = w.changes ≡ []
