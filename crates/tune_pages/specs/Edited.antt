-- A change of pages in progress, as contracts see it.
use Rattle.std.specs.Prelude.{◌≡◌, ℕ, ◌<◌, ◌≤◌, Bool, false, length}
use Rattle.tune_pages.specs.Kept.{Kept}
use Rattle.tune_pages.specs.Stand.{Stand, IsUsed}

-- The pages as the disk has them; what the change makes of them; and whether it goes on: it was
-- begun, no call of it was refused, and it was not finished.
pub record Edited (D : Type 0) : Type 0 where
  pub base : Kept D
  pub next : Stand
  pub live : Bool

-- the pages as the disk has them, and their use
abbrev pub stand_of : {D : Type 0} → Kept D → Stand
stand_of kept = record { pages = kept.pages; used = kept.used }

-- What holds of a change that goes on: the pages are open, the root is in use, each page in use is
-- there, and there is a mark for each page up to the limit.
pub record IsGoing {D : Type 0} (edit : Edited D) : Type 0 where
  pub is_open : edit.base.closed ≡ false
  pub root : IsUsed edit.next.used 0
  pub inside : (page : ℕ) → IsUsed edit.next.used page → page < length edit.next.pages
  pub marks : length edit.next.used ≡ length edit.base.used
  pub count : length edit.base.pages ≤ length edit.base.used
      → length edit.next.pages ≤ length edit.next.used
