-- Images of pages that are kept in memory.
use Rattle.std.specs.Prelude.{◌≡◌, ◌≢◌, ◌⊎◌, ℕ, ◌<◌, List, [], ◌++◌, length, Contains}
use Rattle.std.specs.Prelude.{Option, Some, None}
use Rattle.std.specs.Global.{Box}
use Rattle.lru.specs.LruCache.{LruCache}
use Rattle.tune_journal.specs.ChangeList.{image_of}
use Rattle.tune_journal.specs.Pages.{page_at}
use Rattle.tune_journal.specs.declared.changes.PageImage.{PageImage}
use Rattle.tune_pages.specs.Chain.{next_page_of, piece_of, IsLink}

-- a page, and the image that is kept of it
abbrev pub CachedImage : Type 0
CachedImage = ℕ × Box PageImage

-- the images that are kept, the one that was asked for last first; none before there is a cache
abbrev pub cached_images : Option (LruCache ℕ (Box PageImage)) → List CachedImage
cached_images None = []
cached_images (Some cache) = cache.entries

-- there is room for 1,024
abbrev pub HasRoom : Option (LruCache ℕ (Box PageImage)) → Type 0
HasRoom None = Unit {0}
HasRoom (Some cache) = cache.cap ≡ 1024

-- none but these are kept
abbrev pub KeepsOnly : List CachedImage → List CachedImage → Type 0
KeepsOnly old new = (entry : CachedImage) → Contains new entry → Contains old entry

-- the image of this page is kept
abbrev pub HasImage : List CachedImage → ℕ → List ℕ → Type 0
HasImage entries page image =
    (kept : Box PageImage) × Contains entries (page, kept) × (kept.value.bytes ≡ image)

-- The image of this page is kept. It is of a page of a chain, which leads to `next`, and its bytes
-- that count stand behind those before.
abbrev pub HasLinkImage : List CachedImage → ℕ → ℕ → List ℕ → List ℕ → Type 0
HasLinkImage entries page next before after =
    (image : List ℕ) × HasImage entries page image × IsLink image
    × (next ≡ next_page_of image) × (after ≡ before ++ piece_of image)

-- none but these are kept, and the image of a page
abbrev pub KeepsOneMore : List CachedImage → List CachedImage → ℕ → List ℕ → Type 0
KeepsOneMore old new page image = (entry : CachedImage) → Contains new entry
    → Contains old entry ⊎ ((entry.0 ≡ page) × (entry.1.value.bytes ≡ image))

-- none but these are kept, and of a page no other image than the one that it changes to
abbrev pub Replaces : List CachedImage → List CachedImage → List (ℕ × List ℕ) → ℕ → Type 0
Replaces old new changes page = (entry : CachedImage) → Contains new entry
    → (Contains old entry × (entry.0 ≢ page))
    ⊎ (image_of entry.0 changes ≡ Some entry.1.value.bytes)

-- the same of all pages that change
abbrev pub ReplacesAll : List CachedImage → List CachedImage → List (ℕ × List ℕ) → Type 0
ReplacesAll old new changes = (entry : CachedImage) → Contains new entry
    → (Contains old entry × (image_of entry.0 changes ≡ None))
    ⊎ (image_of entry.0 changes ≡ Some entry.1.value.bytes)

-- Each image that is kept is the image of its page.
abbrev pub AreKept : List (List ℕ) → List CachedImage → Type 0
AreKept pages entries = (entry : CachedImage) → Contains entries entry
    → (entry.0 < length pages) × (entry.1.value.bytes ≡ page_at pages entry.0)
