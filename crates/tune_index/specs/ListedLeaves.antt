-- How the leaves of an index are listed: the numbers of their pages, on a chain (own profile).
use Rattle.std.specs.Prelude.{◌≡◌, ℕ, zero, suc, ◌≤◌, Bool, true, List, [], ◌∷◌, ◌++◌}
use Rattle.std.specs.Prelude.{drop, length}
use Rattle.tune_pages.specs.Claim.{Claimable}
use Rattle.tune_pages.specs.Frame.{TradesPages}
use Rattle.tune_pages.specs.Stand.{AllFree, HasChain, Stand, marked}
use Rattle.index_keys.specs.Entries.{AllFit, Entry, IsRising}
use Rattle.tune_index.specs.Indexes.{AllLeaves, Shape, entries_of, heads_of}
use Rattle.tune_index.specs.Leaves.{value_bytes, value_in}

-- the bytes of numbers, four for each
abbrev pub listed_bytes : List ℕ → List ℕ
listed_bytes [] = []
listed_bytes (number ∷ numbers) = value_bytes number ++ listed_bytes numbers

-- the first n numbers in bytes
abbrev pub numbers_in : ℕ → List ℕ → List ℕ
numbers_in zero bytes = []
numbers_in (suc n) bytes = value_in bytes ∷ numbers_in n (drop 4 bytes)

-- The chain that was stored last is in use; where no leaf came or went since, it lists the leaves.
abbrev pub HasList : Stand → Shape → Type 0
HasList s shape = (trail : List ℕ) × (all : List ℕ) × HasChain s shape.first trail all
    × (shape.listed ≡ true → all ≡ listed_bytes shape.pages)

-- In place of the chain at `first` there is one at `next` that lists these pages.
abbrev pub StoresList : Stand → Stand → ℕ → ℕ → List ℕ → Type 0
StoresList old new first next pages = (trail all : List ℕ) → HasChain old first trail all
    → (along : List ℕ) × HasChain new next along (listed_bytes pages)
    × TradesPages trail along old new

-- the pages, none of them in use, as a `Stand` has them
abbrev pub stand_of_pages : List (List ℕ) → Stand
stand_of_pages pages = record { pages = pages; used = [] }

-- pages, and which of them are claimed
pub record ClaimedPages : Type 0 where
  pub pages : List (List ℕ)
  pub claimed : List Bool

-- these pages, with these marks
abbrev pub pages_claimed : List (List ℕ) → List Bool → ClaimedPages
pages_claimed pages claimed = record { pages = pages; claimed = claimed }

-- An index stands on pages that are still to be claimed: its leaves are listed on the chain that
-- begins at `first`, no page is taken twice, the entries rise from leaf to leaf, and there are at
-- most so many of them.
pub record StoredIndex (width most : ℕ) (now : ClaimedPages) (first : ℕ) (trail leaves : List ℕ)
    : Type 0 where
  pub list : Claimable now.pages now.claimed first trail (listed_bytes leaves)
  pub free : AllFree leaves (marked true trail now.claimed)
  pub form : AllLeaves width (stand_of_pages now.pages) leaves
  pub rising : IsRising (entries_of width (stand_of_pages now.pages) leaves)
  pub few : length (entries_of width (stand_of_pages now.pages) leaves) ≤ most

-- some index is stored there
abbrev pub IsStored : ℕ → ℕ → List (List ℕ) → List Bool → ℕ → Type 0
IsStored width most pages claimed first = (trail : List ℕ) × (leaves : List ℕ)
    × StoredIndex width most (pages_claimed pages claimed) first trail leaves

-- An index and its entries: what memory has of the one, and the other.
pub record IndexWithEntries : Type 0 where
  pub shape : Shape
  pub entries : List Entry

-- this index, with these entries
abbrev pub index_with : Shape → List Entry → IndexWithEntries
index_with shape entries = record { shape = shape; entries = entries }

-- What is loaded is the index that is stored there, with its entries, and its pages are claimed:
-- `after` has what is claimed then.
pub record LoadsIndex (width most : ℕ) (was : ClaimedPages) (after : List Bool) (first : ℕ)
    (loaded : IndexWithEntries) : Type 0 where
  pub trail : List ℕ
  pub stored : StoredIndex width most was first trail loaded.shape.pages
  pub marks : after ≡ marked true loaded.shape.pages (marked true trail was.claimed)
  pub are : loaded.entries ≡ entries_of width (stand_of_pages was.pages) loaded.shape.pages
  pub heads : loaded.shape.heads ≡ heads_of width (stand_of_pages was.pages) loaded.shape.pages
  pub begins : loaded.shape.first ≡ first
  pub listed : loaded.shape.listed ≡ true
  pub fit : AllFit width loaded.entries
