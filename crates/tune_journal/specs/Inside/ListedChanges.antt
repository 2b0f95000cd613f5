-- The changes that a value holds, as a list, and how their images are held.
use Rattle.std.specs.Prelude.{◌≡◌, ℕ, ◌+◌, ◌<◌, ◌≤◌, List, [], ◌∷◌, length, map, take, drop}
use Rattle.std.specs.Prelude.{slice_index_or}
use Rattle.tune_journal.specs.ChangeList.{padded_image}
use Rattle.tune_journal.specs.declared.changes.ChangedPage.{ChangedPage}
use Rattle.tune_journal.specs.declared.changes.Kept.{Kept}
use Rattle.tune_journal.specs.declared.changes.Kept.TheVariants.{Start, Whole}
use Rattle.tune_journal.specs.declared.changes.PageImage.{PageImage}
use Rattle.tune_journal.specs.Inside.ChangeOrder.{IsChangeList}
use Rattle.tune_journal.specs.FileOffsets.{block_bytes}

-- the whole images, as bytes
abbrev pub wholes : List PageImage → List (List ℕ)
wholes whole = map (λ image. image.bytes) whole

abbrev pub image_in : List ℕ → List PageImage → Kept → List ℕ
image_in starts whole (Start from size) = padded_image (take size (drop from starts))
image_in starts whole (Whole place) = slice_index_or (wholes whole) place []

abbrev pub change_in : List ℕ → List PageImage → ChangedPage → ℕ × List ℕ
change_in starts whole c = (c.page, image_in starts whole c.kept)

abbrev pub listed_changes : List ℕ → List PageImage → List ChangedPage → List (ℕ × List ℕ)
listed_changes starts whole changed = map (change_in starts whole) changed

-- An image stands at its place: where it is whole, that has the number of its page.
abbrev pub HasPlace : ℕ → List ℕ → ℕ → Kept → Type 0
HasPlace n pages page (Start from size) = (from + size ≤ n) × (size ≤ block_bytes)
HasPlace n pages page (Whole place) =
    (place < length pages) × (slice_index_or pages place 0 ≡ page)

-- and so for each change: no place of a whole one is that of two
abbrev pub HavePlaces : ℕ → List ℕ → List ChangedPage → Type 0
HavePlaces n pages [] = Unit {0}
HavePlaces n pages (c ∷ cs) = HasPlace n pages c.page c.kept × HavePlaces n pages cs

abbrev pub start_in : Kept → ℕ
start_in (Start from size) = 1
start_in (Whole place) = 0

-- how many changes are held by their first bytes
abbrev pub start_count : List ChangedPage → ℕ
start_count [] = 0
start_count (c ∷ cs) = start_in c.kept + start_count cs

-- A list of changes, with room for the whole image of each. `pages` has the page of each whole
-- image.
pub record HoldsChanges (starts : List ℕ) (whole : List PageImage) (changed : List ChangedPage)
    (room : ℕ) : Type 0 where
  pub pages : List ℕ
  pub order : IsChangeList (listed_changes starts whole changed)
  pub marks : length pages ≡ length whole
  pub places : HavePlaces (length starts) pages changed
  pub count : length whole + start_count changed ≡ length changed
  pub fits : length changed ≤ room
