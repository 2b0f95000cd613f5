-- What the calls on set lists do, and answer: the first refusal whose cause holds is the answer,
-- and the sets stay then.
use Rattle.std.specs.Prelude.{◌≡◌, ◌⊎◌, ℕ, ◌+◌, ◌-◌, List, [], ◌∷◌, ◌++◌, length, map, not}
use Rattle.std.specs.Prelude.{nat_le, if◌then◌else◌, Option, None, Some}
use Rattle.std.specs.Prelude.{Result, Ok, Err, IsOk}
use Rattle.std.specs.List.{remove}
use Rattle.tune_sets.specs.Limits.{most_places, most_sets}
use Rattle.tune_sets.specs.Names.{is_good_name}
use Rattle.tune_sets.specs.Numbers.{has_place}
use Rattle.tune_sets.specs.Sets.{set_at, set_inserted, empty_set, with_numbers, without_set}
use Rattle.tune_sets.specs.declared.set_lists.TuneSet.{TuneSet}
use Rattle.tune_sets.specs.declared.set_rows.SetRow.{SetRow}
use Rattle.tune_sets.specs.declared.faults.SetFault.{SetFault}
use Rattle.tune_sets.specs.declared.faults.SetFault.TheVariants.{BadName, SetTaken, SetsFull}
use Rattle.tune_sets.specs.declared.faults.SetFault.TheVariants.{NoSuchSet, SetFull, NoSuchPlace}
use Rattle.tune_sets.specs.declared.faults.SetFault.TheVariants.{OutOfMemory}

-- the sets after a call, and its answer
abbrev pub SetsOutcome : Type 0 → Type 0
SetsOutcome Answer = List TuneSet × Result Answer SetFault

-- Out of memory, and the sets stay, where the outcome would have been an acceptance; or the sets
-- and the answer are those of the outcome.
abbrev pub StaysOrGives : {Answer : Type 0} → List TuneSet → List TuneSet
    → Result Answer SetFault → SetsOutcome Answer → Type 0
StaysOrGives old new answer outcome =
    ((answer ≡ Err OutOfMemory) × (new ≡ old) × IsOk outcome.1) ⊎ (outcome ≡ (new, answer))

-- A NEW SET
abbrev pub create_unless : List ℕ → List TuneSet → Option TuneSet → SetsOutcome (Unit {0})
create_unless name sets (Some set) = (sets, Err SetTaken)
create_unless name sets None =
    if nat_le most_sets (length sets) then (sets, Err SetsFull)
    else (set_inserted (empty_set name) sets, Ok tt)

-- a set without a place, under a name that is good and that no set has
abbrev pub create_set : List ℕ → List TuneSet → SetsOutcome (Unit {0})
create_set name sets =
    if not (is_good_name name) then (sets, Err BadName)
    else create_unless name sets (set_at name sets)

-- A NUMBER MORE
abbrev pub add_to : List ℕ → ℕ → List TuneSet → Option TuneSet → SetsOutcome ℕ
add_to name number sets None = (sets, Err NoSuchSet)
add_to name number sets (Some set) =
    if nat_le most_places (length set.numbers) then (sets, Err SetFull)
    else (with_numbers name (set.numbers ++ number ∷ []) sets, Ok (length set.numbers + 1))

-- a number at the end of the set of a name; the answer is its place, which counts from 1
abbrev pub add_number : List ℕ → ℕ → List TuneSet → SetsOutcome ℕ
add_number name number sets = add_to name number sets (set_at name sets)

-- A PLACE LESS
abbrev pub cut_from : List ℕ → ℕ → List TuneSet → Option TuneSet → SetsOutcome (Unit {0})
cut_from name place sets None = (sets, Err NoSuchSet)
cut_from name place sets (Some set) =
    if has_place place set.numbers
    then (with_numbers name (remove set.numbers (place - 1)) sets, Ok tt)
    else (sets, Err NoSuchPlace)

-- the set of a name without this place, which counts from 1
abbrev pub cut_place : List ℕ → ℕ → List TuneSet → SetsOutcome (Unit {0})
cut_place name place sets = cut_from name place sets (set_at name sets)

-- A SET LESS
abbrev pub drop_found : List ℕ → List TuneSet → Option TuneSet → SetsOutcome (Unit {0})
drop_found name sets None = (sets, Err NoSuchSet)
drop_found name sets (Some set) = (without_set name sets, Ok tt)

-- without the set of a name
abbrev pub drop_set : List ℕ → List TuneSet → SetsOutcome (Unit {0})
drop_set name sets = drop_found name sets (set_at name sets)

-- LOOKING
abbrev pub places_found : Option TuneSet → Result (List ℕ) SetFault
places_found None = Err NoSuchSet
places_found (Some set) = Ok set.numbers

-- the numbers at the places of the set of a name
abbrev pub places_of : List ℕ → List TuneSet → Result (List ℕ) SetFault
places_of name sets = places_found (set_at name sets)

-- the row of a set: its name, and how many places it has
abbrev pub set_row_of : TuneSet → SetRow
set_row_of set = record { name = set.name; places = length set.numbers }

abbrev pub set_rows_of : List TuneSet → List SetRow
set_rows_of sets = map set_row_of sets
