-- The parts of a walk along a chain.
use Rattle.std.specs.Prelude.{ℕ}
use Rattle.tune_journal.specs.Pages.{page_at}
use Rattle.tune_pages.specs.Chain.{IsLink}
use Rattle.tune_pages.specs.Stand.{Stand, IsUsed}

-- This page is in use, and is a page of a chain.
pub record HasLink (s : Stand) (page : ℕ) : Type 0 where
  pub used : IsUsed s.used page
  pub link : IsLink (page_at s.pages page)
