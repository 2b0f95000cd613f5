-- The entry of turns: what each tune and set list was, and what it is to be.
use Rattle.std.specs.Prelude.{ℕ, List, map, Option, Some, None}
use Rattle.sha2.specs.Sha256.{sha256}
use Rattle.tune_changes.specs.declared.turns.Turn.{Turn}
use Rattle.tune_changes.specs.declared.turns.Turn.TheVariants as turn
use Rattle.tune_undo.specs.OldEntries.{EntryValue}
use Rattle.tune_undo.specs.declared.old_entries.After.{After}
use Rattle.tune_undo.specs.declared.old_entries.After.TheVariants.{Nothing, Text}
use Rattle.tune_undo.specs.declared.old_entries.EntryKind.{EntryKind}
use Rattle.tune_undo.specs.declared.old_entries.Part.{Part}
use Rattle.tune_undo.specs.declared.old_entries.Part.TheVariants.{Tune, Set}

-- a text that is to be, by its sum
abbrev pub after_of_text : Option (List ℕ) → After
after_of_text None = Nothing
after_of_text (Some text) = Text (sha256 text)

abbrev pub part_of : Turn → Part
part_of (turn.Tune number was is) = Tune number was (after_of_text is)
part_of (turn.Set name was is) = Set name was is

abbrev pub entry_of : EntryKind → List Turn → EntryValue
entry_of kind turns = record { kind = kind; parts = map part_of turns }
