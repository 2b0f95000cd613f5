-- Tunes that a change brought, which set lists have since.
use Rattle.std.specs.Prelude.{ℕ, List, Bool, false, not, None, Some, ◌==◌, ◌&&◌}
use Rattle.std.specs.List.{list_any}
use Rattle.std.specs.Str.{bytes_eq}
use Rattle.tune_sets.specs.declared.set_lists.TuneSet.{TuneSet}
use Rattle.tune_undo.specs.OldEntries.{StepValue}
use Rattle.tune_undo.specs.declared.old_entries.Part.{Part}
use Rattle.tune_undo.specs.declared.old_entries.Part.TheVariants as subject

-- A part brought the tune of this number: it was not there before.
abbrev pub brings_tune : ℕ → Part → Bool
brings_tune number (subject.Tune its None is) = its == number
brings_tune number (subject.Tune its (Some was) is) = false
brings_tune number (subject.Set name was is) = false

-- A part is of the set list of this name.
abbrev pub brings_set : List ℕ → Part → Bool
brings_set name (subject.Tune number was is) = false
brings_set name (subject.Set its was is) = bytes_eq its name

abbrev pub have_brought : List StepValue → ℕ → Bool
have_brought change number =
    list_any (λ step. list_any (brings_tune number) step.entry.parts) change

abbrev pub have_turned : List StepValue → List ℕ → Bool
have_turned change name =
    list_any (λ step. list_any (brings_set name) step.entry.parts) change

-- A set list has a tune that a change brought, and is none that the change turned.
abbrev pub holds_back : List StepValue → TuneSet → Bool
holds_back change set =
    not (have_turned change set.name) && list_any (have_brought change) set.numbers
