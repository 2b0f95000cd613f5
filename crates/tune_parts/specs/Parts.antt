-- Parts that stand on pages: chains, and pages of their own, that no page has in common.
use Rattle.std.specs.Prelude.{◌≡◌, ℕ, ◌<◌, Bool, true, false, List, [], ◌∷◌, length, replicate}
use Rattle.std.specs.List.{AllByRecursion, flat_map}
use Rattle.tune_journal.specs.Pages.{page_at}
use Rattle.tune_pages.specs.Chain.{IsChain}
use Rattle.tune_pages.specs.Stand.{Stand, AllFree, marked}

-- what stands on the pages of a part: a chain, or the leaf of an index, on a page of its own
pub data PartKind : Type 0 where
  chain : PartKind
  leaf : PartKind

-- A part: its first page, the pages that it runs through, and its bytes; those of a leaf are the
-- image of its page.
pub record Part : Type 0 where
  pub kind : PartKind
  pub first : ℕ
  pub trail : List ℕ
  pub bytes : List ℕ

-- a page that is not the root has this image
pub record IsLeafPage (pages : List (List ℕ)) (page : ℕ) (trail image : List ℕ) : Type 0 where
  pub alone : trail ≡ page ∷ []
  pub above : 0 < page
  pub there : page < length pages
  pub holds : page_at pages page ≡ image

abbrev pub IsPartOf : PartKind → List (List ℕ) → ℕ → List ℕ → List ℕ → Type 0
IsPartOf chain pages first trail bytes = IsChain pages first trail bytes
IsPartOf leaf pages first trail bytes = IsLeafPage pages first trail bytes

-- it stands on these pages
abbrev pub IsPart : List (List ℕ) → Part → Type 0
IsPart pages part = IsPartOf part.kind pages part.first part.trail part.bytes

-- the part of a chain, and that of a leaf
abbrev pub chain_part : ℕ → List ℕ → List ℕ → Part
chain_part first trail bytes =
    record { kind = chain; first = first; trail = trail; bytes = bytes }

abbrev pub leaf_part : ℕ → List ℕ → Part
leaf_part page image = record { kind = leaf; first = page; trail = page ∷ []; bytes = image }

-- the pages of some parts
abbrev pub trails : List Part → List ℕ
trails parts = flat_map (λ part. part.trail) parts

-- the root, and the pages of some parts
abbrev pub root_and_trails : List Part → List ℕ
root_and_trails parts = 0 ∷ trails parts

-- Of so many pages none is taken twice: the root and those of the parts are free, each when its
-- turn comes.
abbrev pub AreApart : ℕ → List Part → Type 0
AreApart count parts = AllFree (root_and_trails parts) (replicate count false)

-- These parts stand on the pages. None of them has a page of another, or the root.
pub record AreParts (pages : List (List ℕ)) (parts : List Part) : Type 0 where
  pub stand : AllByRecursion (IsPart pages) parts
  pub apart : AreApart (length pages) parts

-- in use are the root and the pages of these parts, and no others
abbrev pub UsesParts : List Bool → List Part → Type 0
UsesParts used parts =
    used ≡ marked true (root_and_trails parts) (replicate (length used) false)

-- These parts stand on the pages, and what is in use are the root and their pages.
pub record HoldsParts (s : Stand) (parts : List Part) : Type 0 where
  pub root : 0 < length s.pages
  pub stand : AllByRecursion (IsPart s.pages) parts
  pub apart : AreApart (length s.used) parts
  pub used : UsesParts s.used parts
