-- What an add does that only tries its books.
use Rattle.std.specs.Prelude.{◌≡◌, ◌≢◌, ◌⊎◌, ℕ, List, None, Result, Ok, Err}
use Rattle.chosen_books.specs.ChosenTunes.{refusal}
use Rattle.tune_disk.specs.declared.disk.Disk as disk
use Rattle.tune_store.specs.Limits.{longest_text}
use Rattle.tune_store.specs.declared.layout.Layout.{Layout}
use Rattle.tune_desk.specs.DeskDeeds.{DeskDeed}
use Rattle.tune_desk.specs.declared.desk.DeskFault.{DeskFault}
use Rattle.desk_terms.specs.declared.adding.Adding.{Adding}
use Rattle.desk_scenes.specs.FileAnswers.{Did, IsAsked, IsUnasked}
use Rattle.desk_books.specs.Givens.{Given, ReadsGivenBook}
use Rattle.desk_books.specs.Stages.{EachInTurn}

-- The status is 0 only of a book of which something may be taken in, by how it is to be done.
abbrev pub WouldTake : Adding → Layout → List ℕ → ℕ → Type 0
WouldTake how layout book status =
    status ≡ 0 → refusal how (longest_text layout) book ≡ None

-- what comes of a reading
abbrev pub TriesRead : Adding → Layout → Result (List ℕ) DeskFault → ℕ → Type 0
TriesRead how layout (Ok book) status = WouldTake how layout book status
TriesRead how layout (Err fault) status = status ≢ 0

-- A book was read, and nothing else was done.
abbrev pub TriesPath : {D : Type 0} → Given → Layout → List ℕ → List (DeskDeed D)
    → List (DeskDeed D) → ℕ → Type 0
TriesPath given layout path was now status = (answer : Result (List ℕ) DeskFault)
    × ReadsGivenBook given.input path answer was now × TriesRead given.how layout answer status

-- FILE was asked for its layout, and nothing else was done with it; then the books of these paths
-- were read.
pub record Tries {D : Type 0} (disks : disk.Ghosts D) (given : Given) (paths : List (List ℕ))
    (was now : List (DeskDeed D)) (status : ℕ) : Type 0 where
  pub layout : Layout
  pub mid : List (DeskDeed D)
  pub asks : Did was mid (IsAsked disks given.file (λ state. layout ≡ state.layout))
  pub tries : EachInTurn (TriesPath given layout) paths mid now status

-- Or FILE was not asked, and the status says so.
abbrev pub TriesFound : {D : Type 0} → disk.Ghosts D → Given → List (List ℕ) → List (DeskDeed D)
    → List (DeskDeed D) → ℕ → Type 0
TriesFound disks given paths was now status = Tries disks given paths was now status
    ⊎ (Did was now (IsUnasked disks given.file) × (status ≢ 0))
