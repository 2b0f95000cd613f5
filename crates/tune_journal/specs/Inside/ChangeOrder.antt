-- The order of a list of changes, and where a page stands in it.
use Rattle.std.specs.Prelude.{◌≡◌, ℕ, ◌<◌, ◌≤◌, List, [], ◌∷◌, length, take, drop, All}
use Rattle.tune_journal.specs.ChangeList.{changed_page}
use Rattle.tune_journal.specs.FileOffsets.{block_bytes}

-- each of these changes is of a page below this one
abbrev pub AreBelow : ℕ → List (ℕ × List ℕ) → Type 0
AreBelow page [] = Unit {0}
AreBelow page (c ∷ cs) = (c.0 < page) × AreBelow page cs

-- each is of a page above it
abbrev pub AreAbove : ℕ → List (ℕ × List ℕ) → Type 0
AreAbove page [] = Unit {0}
AreAbove page (c ∷ cs) = (page < c.0) × AreAbove page cs

-- all changes after one are of pages above its page
abbrev pub PagesRise : List (ℕ × List ℕ) → Type 0
PagesRise [] = Unit {0}
PagesRise (c ∷ cs) = AreAbove c.0 cs × PagesRise cs

-- the pages rise, and each image has 4,096 bytes
pub record IsChangeList (changes : List (ℕ × List ℕ)) : Type 0 where
  pub rising : PagesRise changes
  pub sized : All (λ c. length c.1 ≡ block_bytes) changes

-- this page is found at place `at`, and smaller ones before it
pub record FoundAt (page at : ℕ) (changes : List (ℕ × List ℕ)) : Type 0 where
  pub in_range : at < length changes
  pub is_its : changed_page changes at ≡ page
  pub below : AreBelow page (take at changes)

-- this page is missing: place `at` parts the smaller ones from the greater ones
pub record MissingAt (page at : ℕ) (changes : List (ℕ × List ℕ)) : Type 0 where
  pub in_range : at ≤ length changes
  pub below : AreBelow page (take at changes)
  pub above : AreAbove page (drop at changes)
