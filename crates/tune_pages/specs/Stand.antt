-- What a work stands for: pages, and which of them are in use.
use Rattle.std.specs.Prelude.{◌≡◌, ◌≢◌, ℕ, ◌+◌, ◌<◌, ◌≤◌, Bool, true, false, List, [], ◌∷◌}
use Rattle.std.specs.Prelude.{◌++◌, length, take, drop, slice_index_or, slice_set, replicate, All}
use Rattle.tune_journal.specs.FileOffsets.{block_bytes}
use Rattle.tune_journal.specs.Pages.{page_at}
use Rattle.tune_pages.specs.Chain.{IsChain, ArePadded}
use Rattle.tune_pages.specs.Faults.{pages_for}

-- A list of pages, and which of them are in use; it has a mark for each page up to the limit.
pub record Stand : Type 0 where
  pub pages : List (List ℕ)
  pub used : List Bool

-- page p is in use
abbrev pub IsUsed : List Bool → ℕ → Type 0
IsUsed used p = slice_index_or used p false ≡ true

-- page p is free; a page at or past the limit is neither
abbrev pub IsFree : List Bool → ℕ → Type 0
IsFree used p = slice_index_or used p true ≡ false

-- these pages marked, as in use or as free
abbrev pub marked : Bool → List ℕ → List Bool → List Bool
marked b [] used = used
marked b (p ∷ trail) used = marked b trail (slice_set used p b)

-- Each of these pages is free when its turn comes: none is in use and none comes twice.
abbrev pub AllFree : List ℕ → List Bool → Type 0
AllFree [] used = Unit {0}
AllFree (p ∷ trail) used = IsFree used p × AllFree trail (slice_set used p true)

-- Each is in use when its turn comes: none is free and none comes twice.
abbrev pub AllUsed : List ℕ → List Bool → Type 0
AllUsed [] used = Unit {0}
AllUsed (p ∷ trail) used = IsUsed used p × AllUsed trail (slice_set used p false)

-- the free page that no free page is below
pub record IsLeastFree (used : List Bool) (p : ℕ) : Type 0 where
  pub free : IsFree used p
  pub least : (q : ℕ) → q < p → IsUsed used q

-- Each of these pages is the least free one when its turn comes.
abbrev pub AllLeastFree : List ℕ → List Bool → Type 0
AllLeastFree [] used = Unit {0}
AllLeastFree (p ∷ trail) used = IsLeastFree used p × AllLeastFree trail (slice_set used p true)

-- each page up to the limit is in use
abbrev pub IsFull : List Bool → Type 0
IsFull used = All (λ b. b ≡ true) used

-- the pages with this image at p, which may be the first past their end
abbrev pub placed : ℕ → List ℕ → List (List ℕ) → List (List ℕ)
placed p image pages = take p pages ++ (image ∷ drop (p + 1) pages)

-- page p has this image, and nothing else changes
abbrev pub with_page : ℕ → List ℕ → Stand → Stand
with_page p image s = record { pages = placed p image s.pages; used = s.used }

-- page p comes into use, and holds this image
abbrev pub taken_with : ℕ → List ℕ → Stand → Stand
taken_with p image s = record {
  pages = placed p image s.pages;
  used = slice_set s.used p true;
}

-- page p comes into use, and holds zeros
abbrev pub taken : ℕ → Stand → Stand
taken p s = taken_with p (replicate block_bytes 0) s

-- page p is free
abbrev pub without_page : ℕ → Stand → Stand
without_page p s = record { pages = s.pages; used = slice_set s.used p false }

-- these pages are free
abbrev pub without_pages : List ℕ → Stand → Stand
without_pages trail s = record { pages = s.pages; used = marked false trail s.used }

-- Pages other than these keep their images.
pub record KeepsOthers (trail : List ℕ) (old new : List (List ℕ)) : Type 0 where
  pub longer : length old ≤ length new
  pub same : (p : ℕ) → All (λ q. q ≢ p) trail → page_at new p ≡ page_at old p

-- A new chain stands on pages that were free, the least ones, as many as its bytes want, and
-- nothing else changes.
pub record PutsChain (old new : Stand) (first : ℕ) (trail bytes : List ℕ) : Type 0 where
  pub chain : IsChain new.pages first trail bytes
  pub padded : ArePadded new.pages trail
  pub count : length trail ≡ pages_for (length bytes)
  pub free : AllFree trail old.used
  pub least : AllLeastFree trail old.used
  pub used : new.used ≡ marked true trail old.used
  pub others : KeepsOthers trail old.pages new.pages

-- A chain whose pages are all in use, none of them twice.
pub record HasChain (s : Stand) (first : ℕ) (trail bytes : List ℕ) : Type 0 where
  pub chain : IsChain s.pages first trail bytes
  pub used : AllUsed trail s.used

-- some chain in use begins here, or none at 0
abbrev pub HasSomeChain : Stand → ℕ → Type 0
HasSomeChain s first = (trail : List ℕ) × (bytes : List ℕ) × HasChain s first trail bytes
