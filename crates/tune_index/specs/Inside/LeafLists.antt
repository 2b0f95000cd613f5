-- An index as the list of its leaves.
use Rattle.std.specs.Prelude.{◌≡◌, ℕ, List, [], ◌∷◌, ◌++◌}
use Rattle.tune_pages.specs.Frame.{image_at}
use Rattle.tune_pages.specs.Stand.{Stand}
use Rattle.index_keys.specs.Entries.{Entry}
use Rattle.tune_index.specs.Indexes.{AllLeaves, Shape}
use Rattle.tune_index.specs.Leaves.{leaf_in, slice_entry}

-- the leaves in pages
abbrev pub leaves_of : ℕ → Stand → List ℕ → List (List Entry)
leaves_of width all [] = []
leaves_of width all (page ∷ pages) =
    leaf_in width (image_at all page) ∷ leaves_of width all pages

-- the entries of leaves, one leaf after the other
abbrev pub joined_leaves : List (List Entry) → List Entry
joined_leaves [] = []
joined_leaves (leaf ∷ leaves) = leaf ++ joined_leaves leaves

-- the first entry of each
abbrev pub firsts : List (List Entry) → List Entry
firsts [] = []
firsts (leaf ∷ leaves) = slice_entry leaf 0 ∷ firsts leaves

-- The pages hold these leaves, and memory has the first entry of each.
pub record HasLeaves (width : ℕ) (all : Stand) (shape : Shape) (leaves : List (List Entry))
    : Type 0 where
  pub are : leaves_of width all shape.pages ≡ leaves
  pub heads : shape.heads ≡ firsts leaves
  pub form : AllLeaves width all shape.pages
