-- What opening claims.
use Rattle.std.specs.Prelude.{◌≡◌, ℕ, ◌≤◌, Bool, List, length, Result, MatchResult}
use Rattle.tune_disk.specs.Disk.{DiskState, CountsUp}
use Rattle.tune_pages.specs.Chain.{IsChain}
use Rattle.tune_pages.specs.Claims.{Claims}
use Rattle.tune_pages.specs.Stand.{AllFree}
use Rattle.tune_pages.specs.declared.fault.ClaimFault.{ClaimFault}
use Rattle.tune_pages.specs.declared.fault.ClaimFault.TheVariants.{Damaged, OutOfMemory, Device}

-- This chain begins here, and each of its pages is still to be claimed, none of them twice.
pub record Claimable (pages : List (List ℕ)) (claimed : List Bool) (first : ℕ)
    (trail bytes : List ℕ) : Type 0 where
  pub chain : IsChain pages first trail bytes
  pub free : AllFree trail claimed

-- some such chain begins here
abbrev pub IsClaimable : List (List ℕ) → List Bool → ℕ → Type 0
IsClaimable pages claimed first =
    (trail : List ℕ) × (bytes : List ℕ) × Claimable pages claimed first trail bytes

-- the same of at most so many pages
abbrev pub IsClaimableWithin : ℕ → List (List ℕ) → List Bool → ℕ → Type 0
IsClaimableWithin most pages claimed first = (trail : List ℕ) × (bytes : List ℕ)
    × Claimable pages claimed first trail bytes × (length trail ≤ most)

-- `Damaged` is answered only where what is claimed is not there.
abbrev pub IsChainFault : ClaimFault → Type 0 → Type 0
IsChainFault Damaged There = There → ⊥
IsChainFault OutOfMemory There = Unit {0}
IsChainFault Device There = Unit {0}

-- the same of a claim that takes no memory
abbrev pub IsPageFault : ClaimFault → Type 0 → Type 0
IsPageFault Damaged There = There → ⊥
IsPageFault OutOfMemory There = ⊥
IsPageFault Device There = Unit {0}

-- `Device` is answered where the disk failed, and wherever it did.
abbrev pub CountsClaimFault : ClaimFault → ℕ → ℕ → Type 0
CountsClaimFault Device old new = CountsUp old new
CountsClaimFault Damaged old new = new ≡ old
CountsClaimFault OutOfMemory old new = new ≡ old

-- A claim looks at the pages, and leaves the disk and them as they were.
pub record LooksOpening {D T : Type 0} (honest : D → Type 0) (failures : D → ℕ)
    (state : D → DiskState) (result : Result T ClaimFault) (old new : Claims D) : Type 0 where
  pub was_honest : honest new.disk → honest old.disk
  pub same_state : honest new.disk → state new.disk ≡ state old.disk
  pub same_pages : honest new.disk → new.pages ≡ old.pages
  pub count : length new.pages ≡ length old.pages
  pub counted : MatchResult result
      (λ _. failures new.disk ≡ failures old.disk)
      (λ fault. CountsClaimFault fault (failures old.disk) (failures new.disk))
