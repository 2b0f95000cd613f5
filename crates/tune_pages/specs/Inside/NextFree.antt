-- The page that a work takes next.
use Rattle.std.specs.Prelude.{ℕ, ◌<◌, ◌≤◌, List, Bool, All}
use Rattle.tune_pages.specs.Stand.{IsUsed, IsLeastFree}
use Rattle.tune_pages.specs.Work.{used_in}
use Rattle.tune_pages.specs.declared.work.Work.{Work}

-- Page p is free, and no page below it is: the freed ones are not, and from the frontier on those
-- of the table are in use.
pub record IsNextFree (used : List Bool) (w : Work) (p : ℕ) : Type 0 where
  pub least : IsLeastFree (used_in used w) p
  pub freed : All (λ q. p ≤ q) w.freed.items
  pub full : (q : ℕ) → w.frontier ≤ q → q < p → IsUsed used q
