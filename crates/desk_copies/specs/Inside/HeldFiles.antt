-- An archive that is begun while FILE is held, and put aside.
use Rattle.std.specs.Prelude.{◌≡◌, ℕ, List, ◌++◌, codes, decimal, Result, MatchResult}
use Rattle.tune_desk.specs.ArchiveFiles.{IsBegunArchive, IsHeld, IsPutAside, MakesArchive}
use Rattle.tune_desk.specs.ArchiveFiles.{MakesNone, PutsArchive}
use Rattle.tune_desk.specs.DeskDeeds.{DeskDeed}

pub record HoldsArchive {D : Type 0} (file target : List ℕ) (was now : List (DeskDeed D)) : Type 0
  where
    pub begun : IsBegunArchive file target was now
    pub held : IsHeld target begun.since

-- TARGET, a dot, a number and `.old`
abbrev pub aside_of : List ℕ → ℕ → List ℕ
aside_of target number = target ++ (codes "." ++ decimal number ++ codes ".old")

pub record HasPutAside {D : Type 0} (file target : List ℕ) (number : ℕ)
    (was now : List (DeskDeed D))
    : Type 0 where
  pub holds : HoldsArchive file target was now
  pub aside : IsPutAside target holds.begun.since
  pub numbered : aside.aside ≡ aside_of target number

-- A copy was put where FILE leads, as this disk; or it was not.
abbrev pub Ends : {D T E : Type 0} → List ℕ → D → Result T E → List (DeskDeed D)
    → List (DeskDeed D) → Type 0
Ends file disk outcome was now = MatchResult outcome
    (λ _. MakesArchive file was now × PutsArchive file disk was now)
    (λ _. MakesNone file was now)
