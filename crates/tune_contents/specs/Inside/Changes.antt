-- What a change asks of the rows and of the set lists, and which of them it changes.
use Rattle.std.specs.Prelude.{◌+◌, ◌^◌, ◌<◌, List, length, vec_len, Bool, true, false, ⊤}
use Rattle.std.specs.Prelude.{IsOk, is_some}
use Rattle.tune_pages.specs.Stand.{Stand}
use Rattle.tune_parts.specs.Parts.{Part}
use Rattle.tune_sets.specs.Calls.{create_set, add_number, cut_place, drop_set}
use Rattle.tune_sets.specs.Sets.{holder}
use Rattle.tune_sets.specs.declared.set_lists.TuneSet.{TuneSet}
use Rattle.tune_store.specs.Plans.{changed_tunes, CanChange}
use Rattle.tune_store.specs.State.{IsTunes, NumbersRiseFrom}
use Rattle.tune_store.specs.declared.tune.Tune.{Tune}
use Rattle.tune_store.specs.declared.layout.Layout.{Layout}
use Rattle.tune_store.specs.declared.plans.Change.{Change}
use Rattle.tune_store.specs.declared.plans.Change.TheVariants.{Add, Put, Take, Move, NewSet}
use Rattle.tune_store.specs.declared.plans.Change.TheVariants.{AddPlace, CutPlace, DropSet, Upgrade}
use Rattle.tune_format.specs.declared.rows.Row.{Row}
use Rattle.tune_contents.specs.Claimed.{AreRows}
use Rattle.tune_contents.specs.Holds.{labels_in}
use Rattle.tune_contents.specs.Inside.Laying.{HoldsTunes}

-- there is a row at its place, and its numbers are within 32 bits
abbrev pub RowsAccept : Change → List Row → Type 0
RowsAccept (Add first texts) rows = first + vec_len texts < 2 ^ 32
RowsAccept (Put place tune) rows = place < length rows
RowsAccept (Take place) rows = place < length rows
RowsAccept change rows = ⊤

-- the set lists accept it
abbrev pub SetsAccept : Change → List TuneSet → Type 0
SetsAccept (NewSet name) sets = IsOk (create_set name sets).1
SetsAccept (AddPlace name number) sets = IsOk (add_number name number sets).1
SetsAccept (CutPlace name place) sets = IsOk (cut_place name place sets).1
SetsAccept (DropSet name) sets = IsOk (drop_set name sets).1
SetsAccept change sets = ⊤

-- whether it is one of these set lists, as the move of a tune is that they name
abbrev pub changes_sets : Change → List TuneSet → Bool
changes_sets (Add first texts) sets = false
changes_sets (Put place tune) sets = false
changes_sets (Take place) sets = false
changes_sets (Move number to) sets = is_some (holder number sets)
changes_sets Upgrade sets = false
changes_sets change sets = true

-- Whatever tunes stand there by rising number, the change is made of them, and all other parts
-- stay.
abbrev pub LaysChange : Stand → Stand → List Row → List Row → Change → Type 0
LaysChange old new rows left change = (ahead : List Part) (tunes : List Tune)
    → NumbersRiseFrom 0 tunes → HoldsTunes old ahead tunes rows
    → HoldsTunes new ahead (changed_tunes change tunes) left

-- some tunes within the limits stand so
abbrev pub HoldsTunesWithin : Layout → Stand → List Row → Type 0
HoldsTunesWithin layout s rows = (ahead : List Part) × (tunes : List Tune) × IsTunes layout tunes
    × HoldsTunes s ahead tunes rows

-- Rows within the limits stay so, by rising number, where the change can be made of them.
abbrev pub KeepsRows : Change → List Row → List Row → Type 0
KeepsRows change rows left = (layout : Layout) (sets : List TuneSet)
    → CanChange change layout (labels_in rows) sets → AreRows layout rows → AreRows layout left
