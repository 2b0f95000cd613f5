-- What reading leaves.
use Rattle.std.specs.Prelude.{◌≡◌, ◌≢◌, ℕ, length, Result, MatchResult}
use Rattle.tune_disk.specs.Disk.{DiskState}
use Rattle.tune_pages.specs.Faults.{CountsFaultWhere}
use Rattle.tune_pages.specs.Kept.{Kept, HonestAt, state_at, failures_at}
use Rattle.tune_pages.specs.Stand.{Stand}
use Rattle.tune_pages.specs.declared.fault.Fault.{Fault}
use Rattle.tune_pages.specs.declared.fault.Fault.TheVariants.{Device}

-- Nothing changes, but for the pages that a disk shows that is not honest.
pub record SameKept {D : Type 0} (honest : D → Type 0) (old new : Kept D) : Type 0 where
  pub pages : HonestAt honest new.disk → new.pages ≡ old.pages
  pub count : length new.pages ≡ length old.pages
  pub used : new.used ≡ old.used
  pub limit : new.limit ≡ old.limit
  pub closed : new.closed ≡ old.closed

-- A call that only looks: it leaves the state of the disk as it was, and, unless the disk failed,
-- the pages too.
pub record LooksAt {D T : Type 0} (honest : D → Type 0) (failures : D → ℕ) (state : D → DiskState)
    (result : Result T Fault) (old new : Kept D) : Type 0 where
  pub was_honest : HonestAt honest new.disk → HonestAt honest old.disk
  pub same_state : HonestAt honest new.disk → state_at state new.disk ≡ state_at state old.disk
  pub counted : MatchResult result
      (λ _. failures_at failures new.disk ≡ failures_at failures old.disk)
      (λ fault. CountsFaultWhere (HonestAt honest new.disk) fault
      (failures_at failures old.disk) (failures_at failures new.disk))
  pub same : MatchResult result (λ _. SameKept honest old new)
      (λ fault. fault ≢ Device → SameKept honest old new)

-- A work stands for the same as before, but for the images that a disk shows that is not honest.
pub record SameStand (Honest : Type 0) (old new : Stand) : Type 0 where
  pub same : Honest → new ≡ old
  pub count : length new.pages ≡ length old.pages
  pub used : new.used ≡ old.used
