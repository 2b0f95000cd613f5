-- The parts on which an index stands: the chain that lists its leaves, and these.
use Rattle.std.specs.Prelude.{◌≡◌, ℕ, ◌∷◌, ◌++◌, true, List, map}
use Rattle.std.specs.List.{AllByRecursion, flat_map}
use Rattle.index_keys.specs.Entries.{AllFit, Entry, IsRising}
use Rattle.tune_index.specs.Indexes.{Shape}
use Rattle.tune_index.specs.Leaves.{IsLeaf, leaf_in, slice_entry}
use Rattle.tune_index.specs.ListedLeaves.{IndexWithEntries, index_with, listed_bytes}
use Rattle.tune_pages.specs.Stand.{Stand}
use Rattle.tune_parts.specs.Parts.{HoldsParts, Part}
use Rattle.tune_parts.specs.Parts.PartKind.{chain, leaf}

-- An index: the chain that lists its leaves, and these in order.
pub record IndexParts : Type 0 where
  pub list : Part
  pub leaves : List Part

abbrev pub parts_of_index : IndexParts → List Part
parts_of_index index = index.list ∷ index.leaves

-- a leaf of entries, with keys of so many bytes
pub record IsLeafPart (width : ℕ) (part : Part) : Type 0 where
  pub is_leaf : part.kind ≡ leaf
  pub form : IsLeaf width part.bytes

-- the entries of leaves, one leaf after another
abbrev pub entries_of_parts : ℕ → List Part → List Entry
entries_of_parts width leaves = flat_map (λ part. leaf_in width part.bytes) leaves

-- The parts have these entries, in rising order: the leaves hold them, one after another, and the
-- list names the leaves.
pub record HoldsIndex (width : ℕ) (parts : IndexParts) (entries : List Entry) : Type 0 where
  pub is_chain : parts.list.kind ≡ chain
  pub leaves : AllByRecursion (IsLeafPart width) parts.leaves
  pub listed : parts.list.bytes ≡ listed_bytes (map (λ part. part.first) parts.leaves)
  pub hold : entries_of_parts width parts.leaves ≡ entries
  pub rising : IsRising entries

-- What memory has of an index is that of these parts, with these entries; the list names the leaves
-- where no leaf came or went since it was stored.
pub record KeepsIndex (width : ℕ) (shape : Shape) (parts : IndexParts) (entries : List Entry)
    : Type 0 where
  pub is_chain : parts.list.kind ≡ chain
  pub leaves : AllByRecursion (IsLeafPart width) parts.leaves
  pub first : shape.first ≡ parts.list.first
  pub pages : shape.pages ≡ map (λ part. part.first) parts.leaves
  pub heads : shape.heads ≡ map (λ part. slice_entry (leaf_in width part.bytes) 0) parts.leaves
  pub listed : shape.listed ≡ true → parts.list.bytes ≡ listed_bytes shape.pages
  pub hold : entries_of_parts width parts.leaves ≡ entries
  pub rising : IsRising entries
  pub fit : AllFit width entries

-- Among any others stand the parts of an index.
pub record HoldsIndexAmong (width : ℕ) (s : Stand) (index : IndexWithEntries)
    (before after : List Part) (parts : IndexParts) : Type 0 where
  pub holds : HoldsParts s (before ++ (parts_of_index parts ++ after))
  pub keeps : KeepsIndex width index.shape parts index.entries

-- some index stands so
abbrev pub HoldsSomeIndex : ℕ → Stand → Shape → Type 0
HoldsSomeIndex width s shape = (before : List Part) × (after : List Part) × (parts : IndexParts)
    × (entries : List Entry) × HoldsIndexAmong width s (index_with shape entries) before after parts

-- Whatever index stands there, among whatever parts, its entries are changed so, and all other
-- parts stay.
abbrev pub LaysIndex : ℕ → Stand → Stand → Shape → Shape → (List Entry → List Entry) → Type 0
LaysIndex width old new was is change = (before after : List Part) (parts : IndexParts)
    (entries : List Entry) → HoldsIndexAmong width old (index_with was entries) before after parts
    → (next : IndexParts)
    × HoldsIndexAmong width new (index_with is (change entries)) before after next
