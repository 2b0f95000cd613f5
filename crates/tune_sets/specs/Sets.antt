-- What set lists are: named lists of numbers of tunes, by name in the order of bytes.
use Rattle.std.specs.Prelude.{◌≡◌, ℕ, ◌^◌, ◌<◌, ◌≤◌, List, [], ◌∷◌, length, map, true, ⊤}
use Rattle.std.specs.Prelude.{Option, None, Some, if◌then◌else◌}
use Rattle.std.specs.List.{AllByRecursion}
use Rattle.std.specs.Str.{bytes_eq}
use Rattle.tune_sets.specs.Limits.{most_places, most_sets}
use Rattle.tune_sets.specs.Names.{is_good_name, is_before}
use Rattle.tune_sets.specs.Numbers.{renumbered_all, is_among}
use Rattle.tune_sets.specs.declared.set_lists.TuneSet.{TuneSet}

-- THE LIMITS
-- a set within the limits: its name is good, and each of its places has a number of 32 bits
pub record IsTuneSet (set : TuneSet) : Type 0 where
  pub name : is_good_name set.name ≡ true
  pub places : length set.numbers ≤ most_places
  pub numbers : AllByRecursion (λ n. n < 2 ^ 32) set.numbers

-- names rise strictly, from above this one
abbrev pub NamesRiseFrom : List ℕ → List TuneSet → Type 0
NamesRiseFrom low [] = ⊤
NamesRiseFrom low (set ∷ sets) = (is_before low set.name ≡ true) × NamesRiseFrom set.name sets

-- sets by rising name, within the limits; the empty name stands before each good one
pub record AreSetLists (sets : List TuneSet) : Type 0 where
  pub rises : NamesRiseFrom [] sets
  pub each : AllByRecursion IsTuneSet sets
  pub count : length sets ≤ most_sets

-- LOOKING
-- the set of a name
abbrev pub set_at : List ℕ → List TuneSet → Option TuneSet
set_at name [] = None
set_at name (set ∷ sets) = if bytes_eq set.name name then Some set else set_at name sets

-- the least name of a set that holds a number
abbrev pub holder : ℕ → List TuneSet → Option (List ℕ)
holder number [] = None
holder number (set ∷ sets) =
    if is_among number set.numbers then Some set.name else holder number sets

-- SETS CHANGED
-- a set more, before the first one whose name is greater
abbrev pub set_inserted : TuneSet → List TuneSet → List TuneSet
set_inserted new [] = new ∷ []
set_inserted new (set ∷ sets) =
    if is_before new.name set.name then new ∷ set ∷ sets else set ∷ set_inserted new sets

-- a set of this name, without a place
abbrev pub empty_set : List ℕ → TuneSet
empty_set name = record { name = name; numbers = [] }

-- the set of a name with these numbers at its places
abbrev pub with_numbers : List ℕ → List ℕ → List TuneSet → List TuneSet
with_numbers name numbers [] = []
with_numbers name numbers (set ∷ sets) =
    if bytes_eq set.name name then record { name = set.name; numbers = numbers } ∷ sets
    else set ∷ with_numbers name numbers sets

-- without the set of a name
abbrev pub without_set : List ℕ → List TuneSet → List TuneSet
without_set name [] = []
without_set name (set ∷ sets) = if bytes_eq set.name name then sets else set ∷ without_set name sets

-- each place that named one number names the other
abbrev pub renumbered_set : ℕ → ℕ → TuneSet → TuneSet
renumbered_set from to set =
    record { name = set.name; numbers = renumbered_all from to set.numbers }

abbrev pub renumbered_sets : ℕ → ℕ → List TuneSet → List TuneSet
renumbered_sets from to sets = map (renumbered_set from to) sets
