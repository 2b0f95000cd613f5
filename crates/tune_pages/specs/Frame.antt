-- What a change of pages leaves alone. Who owns some pages says of each call what it did to its
-- own, and that all others are as before.
use Rattle.std.specs.Prelude.{◌≡◌, ◌≢◌, ◌⊎◌, ℕ, List, [], ◌∷◌, Bool, false, slice_index_or}
use Rattle.std.specs.Prelude.{Contains}
use Rattle.tune_journal.specs.Pages.{page_at}
use Rattle.tune_pages.specs.Stand.{Stand, IsUsed}

-- the image of a page
abbrev pub image_at : Stand → ℕ → List ℕ
image_at all page = page_at all.pages page

-- the mark of a page; one past the limit is not in use
abbrev pub mark_at : Stand → ℕ → Bool
mark_at all page = slice_index_or all.used page false

-- The page is in use, and is not the root.
pub record InUse (all : Stand) (page : ℕ) : Type 0 where
  pub flag : IsUsed all.used page
  pub not_root : page ≢ 0

-- Nothing of this page changed.
pub record SamePage (old new : Stand) (page : ℕ) : Type 0 where
  pub image : image_at new page ≡ image_at old page
  pub used : mark_at new page ≡ mark_at old page

-- Every page but this one is as it was.
abbrev pub OthersKept : Stand → Stand → ℕ → Type 0
OthersKept old new page = (other : ℕ) → other ≢ page → SamePage old new other

-- A page that was free came into use.
pub record Allocates (old new : Stand) (page : ℕ) : Type 0 where
  pub free : IsUsed old.used page → ⊥
  pub in_use : InUse new page
  pub others : OthersKept old new page

-- A page went out of use.
pub record Frees (old new : Stand) (page : ℕ) : Type 0 where
  pub free : IsUsed new.used page → ⊥
  pub others : OthersKept old new page

-- A page has a new image.
pub record Puts (old new : Stand) (page : ℕ) (bytes : List ℕ) : Type 0 where
  pub image : image_at new page ≡ bytes
  pub used : mark_at new page ≡ mark_at old page
  pub others : OthersKept old new page

-- A page is none of these.
abbrev pub Apart : ℕ → List ℕ → Type 0
Apart page [] = Unit {0}
Apart page (p ∷ pages) = (p ≢ page) × Apart page pages

-- None of these pages is one of those.
abbrev pub AllApart : List ℕ → List ℕ → Type 0
AllApart [] others = Unit {0}
AllApart (page ∷ pages) others = Apart page others × AllApart pages others

-- The owner of some pages gave some of them back and took others. What is not its own is as before,
-- and stays not its own.
pub record TradesPages (before after : List ℕ) (old new : Stand) : Type 0 where
  pub kept : (page : ℕ) → InUse old page → Apart page before
      → SamePage old new page × Apart page after
  pub taken : (page : ℕ) → InUse new page
      → Contains after page ⊎ (InUse old page × Apart page before)
