-- THE THEOREM OF A LIST of the changes of FILE that can be taken back.
use Rattle.std.specs.Prelude.{◌≡◌, ◌≢◌, ◌⊎◌, ℕ, ◌+◌, List, [], ◌∷◌, ◌++◌, Err, codes, length}
use Rattle.std.specs.Fmt.{decimal}
use Rattle.desk_terms.specs.declared.form.Form.{Form}
use Rattle.tune_undo.specs.EntryBytes.{numbers_bytes}
use Rattle.tune_undo.specs.OldEntries.{StepValue}
use Rattle.tune_undo.specs.declared.old_entries.EntryKind.{EntryKind}
use Rattle.tune_undo.specs.declared.old_entries.EntryKind.TheVariants as kind
use Rattle.tune_undo.specs.declared.old_entries.Part.{Part}
use Rattle.tune_undo.specs.declared.old_entries.Part.TheVariants.{Tune, Set}
use Rattle.tune_desk.specs.DeskDeeds.{DeskDeed, read}
use Rattle.tune_desk.specs.Results.{old_of}
use Rattle.tune_desk.specs.declared.desk.DeskFault.TheVariants.{Missing}
use Rattle.desk_lists.specs.ChangeRows.{change_list_bytes}
use Rattle.desk_lists.specs.declared.change_rows.ChangeRow.{ChangeRow}
use Rattle.desk_scenes.specs.Printing.{Prints, IsSilent}
use Rattle.desk_scenes.specs.Scenes.{Scene, IsQuiet}
use Rattle.desk_changes.specs.OldChanges.{BookChange, changes_of_steps, ReadsSteps}

-- WHAT A CHANGE WAS MADE WITH
-- the numbers of its tunes, and the names of its set lists, in the order of its entries
abbrev pub part_tunes : List Part → List ℕ
part_tunes [] = []
part_tunes (Tune number was is ∷ parts) = number ∷ part_tunes parts
part_tunes (Set name was is ∷ parts) = part_tunes parts

abbrev pub part_sets : List Part → List (List ℕ)
part_sets [] = []
part_sets (Tune number was is ∷ parts) = part_sets parts
part_sets (Set name was is ∷ parts) = name ∷ part_sets parts

abbrev pub change_tunes : BookChange → List ℕ
change_tunes [] = []
change_tunes (step ∷ steps) = part_tunes step.entry.parts ++ change_tunes steps

abbrev pub change_sets : BookChange → List (List ℕ)
change_sets [] = []
change_sets (step ∷ steps) = part_sets step.entry.parts ++ change_sets steps

-- THE SAME IN WORDS
-- each of some tunes
abbrev pub tune_bytes : List ℕ → List ℕ
tune_bytes [] = []
tune_bytes (number ∷ numbers) = codes "tune" ++ numbers_bytes (number ∷ numbers)

-- the name of a set list
abbrev pub name_bytes : List (List ℕ) → List ℕ
name_bytes [] = []
name_bytes (name ∷ names) = name ++ name_bytes names

-- tunes from the first to the last
abbrev pub last_of : ℕ → List ℕ → ℕ
last_of first [] = first
last_of first (next ∷ rest) = last_of next rest

abbrev pub span_bytes : List ℕ → List ℕ
span_bytes [] = codes "no tune"
span_bytes (tune ∷ []) = codes "tune " ++ decimal tune
span_bytes (first ∷ next ∷ rest) =
    codes "tunes " ++ decimal first ++ codes " to " ++ decimal (last_of first (next ∷ rest))

-- how many set lists there are
abbrev pub set_bytes : List (List ℕ) → List ℕ
set_bytes (name ∷ []) = codes "1 set list"
set_bytes names = decimal (length names) ++ codes " set lists"

-- what a load brought
abbrev pub loaded_bytes : List ℕ → List (List ℕ) → List ℕ
loaded_bytes [] sets = set_bytes sets
loaded_bytes (tune ∷ tunes) [] = span_bytes (tune ∷ tunes)
loaded_bytes (tune ∷ tunes) (name ∷ names) =
    span_bytes (tune ∷ tunes) ++ codes " and " ++ set_bytes (name ∷ names)

-- of an add all tunes from the first to the last, of a load how much it was, and of each other
-- change its tunes or its set list
abbrev pub subject_bytes : EntryKind → List ℕ → List (List ℕ) → List ℕ
subject_bytes kind.Add tunes sets = span_bytes tunes
subject_bytes kind.AddMore tunes sets = span_bytes tunes
subject_bytes kind.Load tunes sets = loaded_bytes tunes sets
subject_bytes kind tunes sets = tune_bytes tunes ++ name_bytes sets

-- ROWS
-- the kind of its first entry
abbrev pub kind_of_change : BookChange → EntryKind
kind_of_change [] = kind.Kept
kind_of_change (step ∷ steps) = step.entry.kind

abbrev pub change_row : ℕ → BookChange → ChangeRow
change_row number change = record {
  number = number;
  kind = kind_of_change change;
  subject = subject_bytes (kind_of_change change) (change_tunes change) (change_sets change);
}

-- of changes, the first one first: the last one first, with the number 1
abbrev pub rows_of_changes : List BookChange → List ChangeRow
rows_of_changes [] = []
rows_of_changes (change ∷ changes) =
    rows_of_changes changes ++ change_row (length changes + 1) change ∷ []

-- THE LIST
-- The book of old texts of FILE was read, and these entries are not undone; or there is none.
abbrev pub LacksBook : {D : Type 0} → List ℕ → List (DeskDeed D) → List (DeskDeed D) → Type 0
LacksBook file was now = now ≡ was ++ read (old_of file) (Err Missing) ∷ []

abbrev pub FindsEntries : {D : Type 0} → List ℕ → List StepValue → List (DeskDeed D)
    → List (DeskDeed D) → Type 0
FindsEntries file steps was now =
    ReadsSteps file steps was now ⊎ ((steps ≡ []) × LacksBook file was now)

-- the list of these changes
pub record HasChangeList {D : Type 0} (file : List ℕ) (form : Form) (list : List ℕ)
    (was now : List (DeskDeed D)) : Type 0 where
  pub steps : List StepValue
  pub finds : FindsEntries file steps was now
  pub is : list ≡ change_list_bytes form (rows_of_changes (changes_of_steps steps))

-- Nothing is done with files but to read, and the list is printed; or nothing is, and the status
-- says so.
pub record ListsChanges {D : Type 0} (file : List ℕ) (form : Form) (scene : Scene D) : Type 0 where
  pub quiet : IsQuiet scene.was scene.now
  pub prints : ((list : List ℕ) × HasChangeList file form list scene.was scene.now
      × Prints scene.streams list scene.status)
      ⊎ (IsSilent scene.streams × (scene.status ≢ 0))
