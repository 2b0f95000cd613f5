-- The parts of a claim, and what holds of pages that are being opened.
use Rattle.std.specs.Prelude.{◌≡◌, ℕ, ◌<◌, Bool, List, length}
use Rattle.tune_journal.specs.Pages.{page_at}
use Rattle.tune_pages.specs.Chain.{IsLink}
use Rattle.tune_pages.specs.Stand.{IsUsed, IsFree}
use Rattle.tune_pages.specs.declared.fault.ClaimFault.{ClaimFault}
use Rattle.tune_pages.specs.declared.fault.ClaimFault.TheVariants.{Damaged, OutOfMemory, Device}

-- This page is still to be claimed, and is a page of a chain.
pub record CanLink (pages : List (List ℕ)) (claimed : List Bool) (page : ℕ) : Type 0 where
  pub free : IsFree claimed page
  pub link : IsLink (page_at pages page)

-- what is answered of a page that was read
abbrev pub IsLinkFault : ClaimFault → Type 0 → Type 0
IsLinkFault Damaged There = There → ⊥
IsLinkFault OutOfMemory There = Unit {0}
IsLinkFault Device There = ⊥

-- There is a root, which is claimed, and a mark for each page.
pub record IsClaiming (pages : List (List ℕ)) (claimed : List Bool) : Type 0 where
  pub some : 0 < length pages
  pub marks : length claimed ≡ length pages
  pub root : IsUsed claimed 0
