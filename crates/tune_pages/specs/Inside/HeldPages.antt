-- What a `Pages` holds, and what always holds of it.
use Rattle.std.specs.Prelude.{◌≡◌, ℕ, ◌<◌, ◌≤◌, List, [], Bool, false, Option, Some, None, IsSome}
use Rattle.std.specs.Prelude.{length}
use Rattle.tune_journal.specs.FileOffsets.{most_pages}
use Rattle.tune_pages.specs.Stand.{IsUsed}
use Rattle.tune_pages.specs.declared.pages.Held.{Held}
use Rattle.tune_pages.specs.declared.pages.Held.TheVariants.{Open, Broken, Gone}

-- the disk under a journal, or alone
abbrev pub held_disk : {D : Type 0} → Held D → Option D
held_disk (Open journal) = Some journal.disk
held_disk (Broken disk) = Some disk
held_disk Gone = None

-- the pages of a journal; a disk alone has none that are known
abbrev pub held_pages : {D : Type 0} → Held D → List (List ℕ)
held_pages (Open journal) = journal.pages
held_pages (Broken disk) = []
held_pages Gone = []

-- there is a journal
abbrev pub IsOpen : {D : Type 0} → Held D → Type 0
IsOpen (Open journal) = Unit {0}
IsOpen (Broken disk) = ⊥
IsOpen Gone = ⊥

-- There is a disk, and a mark for each page up to the limit; the root is in use. While no call
-- failed, pages in use are pages that are there, and these are not more than there may be.
pub record IsKept {D : Type 0} (disk : Option D) (pages : List (List ℕ)) (used : List Bool)
    (limit : ℕ) (closed : Bool) : Type 0 where
  pub is_held : IsSome disk
  pub least : 1 ≤ limit
  pub most : limit ≤ most_pages
  pub marks : length used ≡ limit
  pub root : IsUsed used 0
  pub below : closed ≡ false → (p : ℕ) → IsUsed used p → p < length pages
  pub few : closed ≡ false → length pages ≤ limit

-- no page below n is free
abbrev pub AllUsedBelow : ℕ → List Bool → Type 0
AllUsedBelow n used = (q : ℕ) → q < n → IsUsed used q
