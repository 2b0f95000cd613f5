-- How many of the free pages a call takes.
use Rattle.std.specs.Prelude.{◌≡◌, ℕ, ◌+◌, ◌<◌, ◌≤◌, Result, MatchResult}
use Rattle.tune_pages.specs.Faults.{free_pages}
use Rattle.tune_pages.specs.Stand.{Stand}
use Rattle.tune_pages.specs.declared.fault.Fault.{Fault}
use Rattle.tune_pages.specs.declared.fault.Fault.TheVariants.{FileFull}

-- The call took at most n of the free pages, and answers that the file is full only where fewer
-- than n were free.
abbrev pub TakesAtMost : {T : Type 0} → ℕ → Result T Fault → Stand → Stand → Type 0
TakesAtMost n result old new = MatchResult result
    (λ _. free_pages old.used ≤ free_pages new.used + n)
    (λ fault. fault ≡ FileFull → free_pages old.used < n)
