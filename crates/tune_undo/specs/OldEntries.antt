-- What an entry of the book of old texts is.
use Rattle.std.specs.Prelude.{◌≡◌, ℕ, ◌^◌, ◌<◌, List, true, ⊤}
use Rattle.std.specs.Prelude.{Option, IfSome}
use Rattle.std.specs.List.{AllByRecursion}
use Rattle.abc_fields.specs.Limits.{longest_tune}
use Rattle.abc_fields.specs.Tunes.{IsTextWithin}
use Rattle.tune_sets.specs.Names.{is_good_name}
use Rattle.tune_undo.specs.TextSums.{IsSum}
use Rattle.tune_undo.specs.declared.old_entries.EntryKind.{EntryKind}
use Rattle.tune_undo.specs.declared.old_entries.After.{After}
use Rattle.tune_undo.specs.declared.old_entries.After.TheVariants.{Nothing, Text, Revision}
use Rattle.tune_undo.specs.declared.old_entries.Part.{Part}
use Rattle.tune_undo.specs.declared.old_entries.Part.TheVariants.{Tune, Set}
use Rattle.tune_undo.specs.declared.old_entries.Entry.{Entry}
use Rattle.tune_undo.specs.declared.old_entries.Step.{Step}

-- an entry, wherever its parts lie in memory
pub record EntryValue : Type 0 where
  pub kind : EntryKind
  pub parts : List Part

abbrev pub entry_value : Entry → EntryValue
entry_value entry = record { kind = entry.kind; parts = entry.parts.items }

-- an entry that is not undone, and the greatest number when its undoing was begun
pub record StepValue : Type 0 where
  pub entry : EntryValue
  pub begun : Option ℕ

abbrev pub step_value : Step → StepValue
step_value step = record { entry = entry_value step.entry; begun = step.begun }

-- WITHIN THE LIMITS
-- numbers of 32 bits
abbrev pub AreNumbers : List ℕ → Type 0
AreNumbers numbers = AllByRecursion (λ n. n < 2 ^ 32) numbers

abbrev pub IsAfter : After → Type 0
IsAfter Nothing = ⊤
IsAfter (Text sum) = IsSum sum
IsAfter (Revision revision) = revision < 2 ^ 32

-- a part as the program's types have it: tune texts, good names, numbers of 32 bits
abbrev pub IsEntryPart : Part → Type 0
IsEntryPart (Tune number was is) =
    (number < 2 ^ 32) × (IfSome was (λ text. IsTextWithin longest_tune text) × IsAfter is)
IsEntryPart (Set name was is) =
    (is_good_name name ≡ true) × (IfSome was AreNumbers × IfSome is AreNumbers)
