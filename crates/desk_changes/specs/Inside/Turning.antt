-- What the calls between looking and closing come to.
use Rattle.std.specs.Prelude.{◌≡◌, ◌⊎◌, ℕ, List, Result, Ok, Err, MatchResult}
use Rattle.tune_disk.specs.declared.disk.Disk as disk
use Rattle.tune_disk.specs.declared.file.Access.TheVariants.{Change}
use Rattle.tune_store.specs.State.{State}
use Rattle.tune_store.specs.declared.command.Refusal.{Refusal}
use Rattle.tune_undo.specs.declared.old_entries.EntryKind.{EntryKind}
use Rattle.tune_changes.specs.declared.turns.Turn.{Turn}
use Rattle.tune_desk.specs.DeskDeeds.{DeskDeed}
use Rattle.tune_desk.specs.OldTexts.{GrowsNot}
use Rattle.desk_scenes.specs.FileAnswers.{Did}
use Rattle.desk_scenes.specs.Visits.{Visits}
use Rattle.desk_changes.specs.ChangedFiles.{Passage, KeepsAndBringsAbout, ChangesBy, LeavesAll}
use Rattle.desk_changes.specs.ChangedFiles.{IsChangedWithin}

-- Turns were brought about behind their entry; or this was not kept, and nothing was done; or a
-- refusal ended them.
abbrev pub TurnsBehindEntry : {D T A : Type 0} → disk.Ghosts D → List ℕ → EntryKind → List Turn
    → Result T A → Passage D → Type 0
TurnsBehindEntry disks file kind turns result course = MatchResult result
    (λ _. KeepsAndBringsAbout disks file kind turns (Ok tt) course)
    (λ _. ((course.finish ≡ course.start) × GrowsNot file course.was course.now)
    ⊎ ((refusal : Refusal) × KeepsAndBringsAbout disks file kind turns (Err refusal) course))

-- The same behind a look, by which the turns were found.
abbrev pub Alters : {D T A : Type 0} → disk.Ghosts D → List ℕ → EntryKind
    → (State → List Turn → Type 0) → Result T A → Passage D → Type 0
Alters disks file kind Means result course = MatchResult result
    (λ _. ChangesBy disks file kind Means (Ok tt) course)
    (λ _. LeavesAll disks file course
    ⊎ ((refusal : Refusal) × ChangesBy disks file kind Means (Err refusal) course))

-- what was done with files between two moments
pub record Stretch (D : Type 0) : Type 0 where
  pub was : List (DeskDeed D)
  pub now : List (DeskDeed D)

-- The same in FILE, which was opened to change and closed; or it was not opened.
abbrev pub AltersFile : {D T A : Type 0} → disk.Ghosts D → List ℕ → EntryKind
    → (State → List Turn → Type 0) → Result T A → Stretch D → Type 0
AltersFile disks file kind Means result stretch = MatchResult result
    (λ _. IsChangedWithin disks file (ChangesBy disks file kind Means (Ok tt))
    stretch.was stretch.now)
    (λ _. Did stretch.was stretch.now (Visits disks file Change)
    ⊎ (IsChangedWithin disks file (LeavesAll disks file) stretch.was stretch.now
    ⊎ ((refusal : Refusal) × IsChangedWithin disks file
    (ChangesBy disks file kind Means (Err refusal)) stretch.was stretch.now)))
