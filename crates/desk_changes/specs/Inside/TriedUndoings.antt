-- What the calls of an undoing come to, by their results.
use Rattle.std.specs.Prelude.{◌≡◌, ◌⊎◌, ℕ, List, [], ◌∷◌, ◌++◌, Result, MatchResult, map}
use Rattle.std.specs.Prelude.{Bool, take, drop, Ok, Err}
use Rattle.tune_disk.specs.declared.disk.Disk as disk
use Rattle.tune_disk.specs.declared.file.Access.TheVariants.{Change}
use Rattle.tune_archive.specs.AsStore.{store_on}
use Rattle.tune_archive.specs.Shelf.{Shelf}
use Rattle.tune_asking.specs.Asking.{IsOnlyAsked}
use Rattle.tune_desk.specs.declared.desk.DeskFault.{DeskFault}
use Rattle.tune_undo.specs.OldEntries.{EntryValue, StepValue, step_value}
use Rattle.tune_undo.specs.OldItems.{Item, Top, IsItemLog, standing}
use Rattle.tune_undo.specs.OldTextLaws.{made_ready}
use Rattle.tune_undo.specs.declared.old_entries.Part.{Part}
use Rattle.tune_undo.specs.declared.old_entries.Step.{Step}
use Rattle.desk_scenes.specs.FileAnswers.{Did}
use Rattle.desk_scenes.specs.Visits.{Visits}
use Rattle.desk_changes.specs.ChangedFiles.{Passage, IsChangedWithin}
use Rattle.desk_changes.specs.OldChanges.{BookChange, changes_of_steps}
use Rattle.desk_changes.specs.TakenBack.{BringsBack, BringsSome, UndoesEntry, BreaksOffEntry}
use Rattle.desk_changes.specs.TakenBack.{UndoesEntries, BreaksOffEntries, UndoesChange}
use Rattle.desk_changes.specs.TakenBack.{BreaksOffChange}
use Rattle.desk_changes.specs.Inside.Telling.{Tells, ToldBytes}
use Rattle.desk_changes.specs.Inside.Turning.{Stretch}
use Rattle.desk_changes.specs.Undone.{UndoesLast, UndoesFewer, UsesBook, FindsNoBook}

-- entries, wherever they lie in memory
abbrev pub steps_of : List Step → List StepValue
steps_of changes = map step_value changes

-- the last change of some entries is that of the entries from a place on
abbrev pub EndsFrom : ℕ → List Step → Type 0
EndsFrom first changes = changes_of_steps (steps_of changes)
    ≡ changes_of_steps (steps_of (take first changes)) ++ steps_of (drop first changes) ∷ []

-- the entries that stand in a book that was read
pub record AreStanding (book : List ℕ) (steps : List StepValue) : Type 0 where
  pub items : List Item
  pub log : IsItemLog Top (made_ready book) items
  pub are : steps ≡ standing items

-- the book was read, and these stand in it
abbrev pub FindsSteps : Result (List ℕ) DeskFault → List StepValue → Type 0
FindsSteps (Ok book) steps = AreStanding book steps
FindsSteps (Err fault) steps = ⊥

-- Parts were brought to what they were, or some of them; then questions were asked.
pub record FinishesSome {D : Type 0} (disks : disk.Ghosts D) (file : List ℕ) (parts : List Part)
    (course : Passage D) : Type 0 where
  pub last : Shelf D
  pub brings : BringsSome disks file parts last course
  pub asked : IsOnlyAsked (store_on disks) last course.finish

abbrev pub FinishesEntry : {D A : Type 0} → disk.Ghosts D → List ℕ → EntryValue → ToldBytes
    → Result (Unit {0}) A → Passage D → Type 0
FinishesEntry disks file entry told result course = MatchResult result
    (λ _. Tells told (λ more. BringsBack disks file entry more course))
    (λ _. FinishesSome disks file entry.parts course)

abbrev pub TriesEntry : {D A : Type 0} → disk.Ghosts D → List ℕ → StepValue → ToldBytes
    → Result Bool A → Passage D → Type 0
TriesEntry disks file step told result course = MatchResult result
    (λ some. Tells told (λ more. UndoesEntry disks file step some more course))
    (λ _. BreaksOffEntry disks file step.entry.parts course)

abbrev pub TriesEntries : {D A : Type 0} → disk.Ghosts D → List ℕ → BookChange → ToldBytes
    → Result Bool A → Passage D → Type 0
TriesEntries disks file change told result course = MatchResult result
    (λ some. Tells told (λ more. UndoesEntries disks file change some more course))
    (λ _. BreaksOffEntries disks file change course)

abbrev pub TriesChange : {D A : Type 0} → disk.Ghosts D → List ℕ → BookChange → ToldBytes
    → Result Bool A → Passage D → Type 0
TriesChange disks file change told result course = MatchResult result
    (λ some. Tells told (λ more. UndoesChange disks file change some more course))
    (λ _. BreaksOffChange disks file change course)

-- how many changes are to be taken back, and what was told before that and behind it
pub record Times : Type 0 where
  pub count : ℕ
  pub told : ToldBytes

abbrev pub TriesTimes : {D A : Type 0} → disk.Ghosts D → List ℕ → Times → List StepValue
    → Result (Unit {0}) A → Passage D → Type 0
TriesTimes disks file times steps result course = MatchResult result
    (λ _. Tells times.told (λ more. UndoesLast disks file times.count more steps course))
    (λ _. UndoesFewer disks file times.count steps course)

abbrev pub TriesByBook : {D A : Type 0} → disk.Ghosts D → List ℕ → ℕ → ToldBytes
    → Result (Unit {0}) A → Passage D → Type 0
TriesByBook disks file count told result course = MatchResult result
    (λ _. Tells told (λ more. UsesBook file (UndoesLast disks file count more) course))
    (λ _. FindsNoBook course ⊎ UsesBook file (UndoesFewer disks file count) course)

abbrev pub TriesWithin : {D A : Type 0} → disk.Ghosts D → List ℕ → ℕ → ToldBytes
    → Result (Unit {0}) A → Stretch D → Type 0
TriesWithin disks file count told result stretch = MatchResult result
    (λ _. Tells told (λ more. IsChangedWithin disks file
    (UsesBook file (UndoesLast disks file count more)) stretch.was stretch.now))
    (λ _. Did stretch.was stretch.now (Visits disks file Change)
    ⊎ (IsChangedWithin disks file FindsNoBook stretch.was stretch.now
    ⊎ IsChangedWithin disks file (UsesBook file (UndoesFewer disks file count))
    stretch.was stretch.now))
