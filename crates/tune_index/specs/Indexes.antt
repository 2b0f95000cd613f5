-- What an index stands for in the pages of a work.
use Rattle.std.specs.Prelude.{◌≡◌, ℕ, ◌+◌, List, [], ◌∷◌, ◌++◌, length, Bool, true}
use Rattle.tune_pages.specs.Faults.{free_pages}
use Rattle.tune_pages.specs.Frame.{Apart, TradesPages, image_at}
use Rattle.tune_pages.specs.Stand.{AllUsed, Stand}
use Rattle.index_keys.specs.Entries.{AllFit, Entry, IsRising}
use Rattle.tune_index.specs.Leaves.{IsLeaf, leaf_in, slice_entry}

-- the entries of the leaves, one leaf after the other
abbrev pub entries_of : ℕ → Stand → List ℕ → List Entry
entries_of width all [] = []
entries_of width all (page ∷ pages) =
    leaf_in width (image_at all page) ++ entries_of width all pages

-- the first entry of each leaf
abbrev pub heads_of : ℕ → Stand → List ℕ → List Entry
heads_of width all [] = []
heads_of width all (page ∷ pages) =
    slice_entry (leaf_in width (image_at all page)) 0 ∷ heads_of width all pages

-- each of these pages is in use, none stands twice, and none is the root
abbrev pub HasPages : Stand → List ℕ → Type 0
HasPages all pages = AllUsed pages all.used × Apart 0 pages

-- each page has the form of a leaf
abbrev pub AllLeaves : ℕ → Stand → List ℕ → Type 0
AllLeaves width all [] = Unit {0}
AllLeaves width all (page ∷ pages) = IsLeaf width (image_at all page) × AllLeaves width all pages

-- What contracts see of an index: the pages of its leaves, and the first entry of each leaf as it
-- is kept in memory; where the chain begins that lists the pages, as it was stored last, and
-- whether no leaf came or went since.
pub record Shape : Type 0 where
  pub pages : List ℕ
  pub heads : List Entry
  pub first : ℕ
  pub listed : Bool

-- The chain stays where it is; where it lists the leaves, these are as before.
pub record KeepsList (was is : Shape) : Type 0 where
  pub first : is.first ≡ was.first
  pub listed : is.listed ≡ true → (was.listed ≡ true) × (is.pages ≡ was.pages)

-- The pages stand for an index: each is a leaf, memory has the first entry of each, and the
-- entries rise from leaf to leaf.
pub record IsIndex (width : ℕ) (all : Stand) (shape : Shape) : Type 0 where
  pub form : AllLeaves width all shape.pages
  pub heads : shape.heads ≡ heads_of width all shape.pages
  pub rising : IsRising (entries_of width all shape.pages)
  pub fit : AllFit width (entries_of width all shape.pages)

-- What a call keeps of how many pages are free: a page less for each leaf more.
abbrev pub KeepsBalance : Stand → Stand → List ℕ → List ℕ → Type 0
KeepsBalance old new before after =
    free_pages old.used + length before ≡ free_pages new.used + length after

-- What a change of an index leaves: of its list, of its pages, where those were its own before, and
-- of how many are free.
pub record Reshapes (Owned : Type 0) (old new : Stand) (was is : Shape) : Type 0 where
  pub list : KeepsList was is
  pub pages : Owned → HasPages new is.pages
  pub trades : Owned → TradesPages was.pages is.pages old new
  pub balance : KeepsBalance old new was.pages is.pages
