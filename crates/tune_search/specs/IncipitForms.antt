-- Incipits by eight notes or by twelve: what stands in either form.
use Rattle.std.specs.Prelude.{ℕ, List}
use Rattle.index_keys.specs.Entries.{Entry}
use Rattle.tune_index.specs.Indexes.{Shape}
use Rattle.tune_search.specs.HeldShapes.{held_entries}
use Rattle.tune_search.specs.declared.held_entries.HeldEntries.{HeldEntries}
use Rattle.tune_search.specs.declared.held_entries.HeldEntries.TheVariants as held
use Rattle.tune_search.specs.declared.incipit_entries.IncipitEntries.{IncipitEntries}
use Rattle.tune_search.specs.declared.incipit_entries.IncipitEntries.TheVariants as list
use Rattle.tune_search.specs.declared.incipit_entries.IncipitNotes.{IncipitNotes}
use Rattle.tune_search.specs.declared.incipit_entries.IncipitNotes.TheVariants as choice
use Rattle.tune_search.specs.declared.incipit_index.IncipitIndex.{IncipitIndex}
use Rattle.tune_search.specs.declared.incipit_index.IncipitIndex.TheVariants as form

-- how many notes
abbrev pub note_count : IncipitNotes → ℕ
note_count choice.Eight = 8
note_count choice.Twelve = 12

-- ENTRIES
-- by how many notes they are
abbrev pub notes_of_entries : IncipitEntries → ℕ
notes_of_entries (list.Eight run) = 8
notes_of_entries (list.Twelve run) = 12

-- their list
abbrev pub entries_of_incipits : IncipitEntries → List Entry
entries_of_incipits (list.Eight run) = run.items
entries_of_incipits (list.Twelve run) = run.items

-- HELD ENTRIES
-- by how many notes they are
abbrev pub notes_held : HeldEntries → ℕ
notes_held (held.Eight run) = 8
notes_held (held.Twelve run) = 12

-- their list
abbrev pub entries_held : HeldEntries → List Entry
entries_held (held.Eight run) = held_entries 32 run
entries_held (held.Twelve run) = held_entries 48 run

-- AN INDEX
-- by how many notes it is
abbrev pub notes_of_index : IncipitIndex → ℕ
notes_of_index (form.Eight shape) = 8
notes_of_index (form.Twelve shape) = 12

-- its shape
abbrev pub shape_of : IncipitIndex → Shape
shape_of (form.Eight shape) = shape
shape_of (form.Twelve shape) = shape
