-- Which kind of entry a change has.
use Rattle.desk_terms.specs.declared.alteration.Alteration.{Alteration}
use Rattle.desk_terms.specs.declared.alteration.Alteration.TheVariants as change
use Rattle.tune_undo.specs.declared.old_entries.EntryKind.{EntryKind}
use Rattle.tune_undo.specs.declared.old_entries.EntryKind.TheVariants as kind

abbrev pub kind_of_alteration : Alteration → EntryKind
kind_of_alteration (change.Delete numbers) = kind.Delete
kind_of_alteration (change.Put name numbers) = kind.Put
kind_of_alteration (change.Cut name places) = kind.Cut
kind_of_alteration (change.Move name place to) = kind.Move
kind_of_alteration (change.Drop name) = kind.Drop
