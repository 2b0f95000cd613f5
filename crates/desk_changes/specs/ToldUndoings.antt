-- What is told of an entry that was taken back.
use Rattle.std.specs.Prelude.{ℕ, List, [], ◌∷◌, ◌++◌, ◌-◌, ◌==◌, if◌then◌else◌, codes, length}
use Rattle.std.specs.Prelude.{Option, None, Some, slice_get}
use Rattle.std.specs.Fmt.{decimal}
use Rattle.tune_store.specs.State.{State, tune_at}
use Rattle.tune_store.specs.declared.tune.Tune.{Tune}
use Rattle.tune_undo.specs.OldEntries.{EntryValue}
use Rattle.tune_undo.specs.declared.old_entries.EntryKind.{EntryKind}
use Rattle.tune_undo.specs.declared.old_entries.EntryKind.TheVariants as kind
use Rattle.tune_undo.specs.declared.old_entries.Part.{Part}
use Rattle.tune_undo.specs.declared.old_entries.Part.TheVariants as subject
use Rattle.desk_changes.specs.ToldChanges.{last_of, part_tunes}

-- TUNES THAT ARE OUT AGAIN
abbrev pub out_line : ℕ → ℕ → List ℕ
out_line first last =
    if first == last then codes "tune " ++ decimal first ++ codes " is out again\n"
    else codes "tunes " ++ decimal first ++ codes " to " ++ decimal last
    ++ codes " are out again\n"

-- those of an add, from the tune of its first part to that of its last
abbrev pub ends_out : Option Part → Option Part → List ℕ
ends_out (Some (subject.Tune first was is)) (Some (subject.Tune last had has)) = out_line first last
ends_out first last = []

abbrev pub added_out : List Part → List ℕ
added_out parts = ends_out (slice_get parts 0) (slice_get parts (length parts - 1))

-- those of a load, from its first tune to its last, if it has any
abbrev pub tunes_out : List ℕ → List ℕ
tunes_out [] = []
tunes_out (first ∷ rest) = out_line first (last_of first rest)

-- WHAT IS AS IT WAS
abbrev pub set_ending : Option (List ℕ) → List ℕ
set_ending (Some numbers) = codes " is as it was\n"
set_ending None = codes " is gone again\n"

abbrev pub part_back : Part → List ℕ
part_back (subject.Tune number was is) =
    codes "tune " ++ decimal number ++ codes " is there again\n"
part_back (subject.Set name was is) = name ++ set_ending was

abbrev pub parts_back : List Part → List ℕ
parts_back [] = []
parts_back (part ∷ parts) = part_back part ++ parts_back parts

-- the set lists among these parts
abbrev pub sets_back : List Part → List ℕ
sets_back [] = []
sets_back (subject.Tune number was is ∷ parts) = sets_back parts
sets_back (subject.Set name was is ∷ parts) =
    part_back (subject.Set name was is) ++ sets_back parts

-- THE REVISION of a tune that has its text again
abbrev pub revision_told : ℕ → Option Tune → List ℕ
revision_told number None = []
revision_told number (Some tune) = codes "tune " ++ decimal number ++ codes " has revision "
    ++ decimal tune.revision ++ codes " now\n"

abbrev pub part_revised : Part → State → List ℕ
part_revised (subject.Tune number was is) state = revision_told number (tune_at number state.tunes)
part_revised (subject.Set name was is) state = []

abbrev pub parts_revised : List Part → State → List ℕ
parts_revised [] state = []
parts_revised (part ∷ parts) state = part_revised part state ++ parts_revised parts state

-- AN ENTRY
-- of a kind that is told by its parts alone
abbrev pub parts_undone : EntryKind → List Part → List ℕ
parts_undone kind.Add parts = added_out parts
parts_undone kind.AddMore parts = added_out parts
parts_undone kind.Load parts = sets_back parts ++ tunes_out (part_tunes parts)
parts_undone kind parts = parts_back parts

-- of each kind, in the state that the archive has then
abbrev pub kind_undone : EntryKind → List Part → State → List ℕ
kind_undone kind.Replace parts state = parts_revised parts state
kind_undone kind parts state = parts_undone kind parts

abbrev pub undone_bytes : EntryValue → State → List ℕ
undone_bytes entry state = kind_undone entry.kind entry.parts state
