-- A leaf that is loaded behind others.
use Rattle.std.specs.Prelude.{◌≡◌, ℕ, List, [], ◌∷◌, ◌++◌}
use Rattle.tune_journal.specs.Pages.{page_at}
use Rattle.index_keys.specs.Entries.{AllFit}
use Rattle.tune_index.specs.Leaves.{IsLeaf, leaf_in, slice_entry}
use Rattle.tune_index.specs.ListedLeaves.{IndexWithEntries}

-- The page is the leaf behind these, with its entries behind theirs.
pub record LoadsLeaf (width : ℕ) (pages : List (List ℕ)) (page : ℕ) (was is : IndexWithEntries)
    : Type 0 where
  pub form : IsLeaf width (page_at pages page)
  pub pages_are : is.shape.pages ≡ was.shape.pages ++ page ∷ []
  pub heads_are : is.shape.heads
      ≡ was.shape.heads ++ slice_entry (leaf_in width (page_at pages page)) 0 ∷ []
  pub first : is.shape.first ≡ was.shape.first
  pub listed : is.shape.listed ≡ was.shape.listed
  pub entries : is.entries ≡ was.entries ++ leaf_in width (page_at pages page)
  pub fit : AllFit width (leaf_in width (page_at pages page))
