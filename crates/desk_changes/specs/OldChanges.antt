-- The changes of a book of old texts that are not undone.
use Rattle.std.specs.Prelude.{◌≡◌, ℕ, List, [], ◌∷◌, ◌++◌, Bool, true, false, if◌then◌else◌, Ok}
use Rattle.tune_undo.specs.OldEntries.{StepValue}
use Rattle.tune_undo.specs.OldItems.{Item, Top, IsItemLog, standing}
use Rattle.tune_undo.specs.OldTextLaws.{made_ready}
use Rattle.tune_undo.specs.declared.old_entries.EntryKind.{EntryKind}
use Rattle.tune_undo.specs.declared.old_entries.EntryKind.TheVariants as kind
use Rattle.tune_desk.specs.DeskDeeds.{DeskDeed, read}
use Rattle.tune_desk.specs.Results.{old_of}

-- a change: the entries of it that stand in the book, the first one first
abbrev pub BookChange : Type 0
BookChange = List StepValue

-- the tunes of a further book of an add belong to the change of the entry before them
abbrev pub is_further : EntryKind → Bool
is_further kind.AddMore = true
is_further _ = false

abbrev pub begins_further : BookChange → Bool
begins_further [] = false
begins_further (step ∷ steps) = is_further step.entry.kind

-- an entry before changes: of the first one of them, or a change of its own
abbrev pub put_before : StepValue → List BookChange → List BookChange
put_before step [] = (step ∷ []) ∷ []
put_before step (change ∷ changes) =
    if begins_further change then (step ∷ change) ∷ changes
    else (step ∷ []) ∷ change ∷ changes

-- the changes of these entries, the first one first
abbrev pub changes_of_steps : List StepValue → List BookChange
changes_of_steps [] = []
changes_of_steps (step ∷ steps) = put_before step (changes_of_steps steps)

-- The book of old texts of FILE was read, and these are the entries of it that are not undone. The
-- book is read as it is once its last line is ended.
pub record ReadsSteps {D : Type 0} (file : List ℕ) (steps : List StepValue)
    (was now : List (DeskDeed D)) : Type 0 where
  pub book : List ℕ
  pub items : List Item
  pub deed : now ≡ was ++ read (old_of file) (Ok book) ∷ []
  pub log : IsItemLog Top (made_ready book) items
  pub are : steps ≡ standing items
