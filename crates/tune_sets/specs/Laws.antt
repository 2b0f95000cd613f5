-- What holds of set lists in a reader's words: by the names of sets, and not by where they stand.
use Rattle.std.specs.Prelude.{◌≡◌, ◌≢◌, ℕ, List, Some, Result, true}
use Rattle.tune_sets.specs.Names.{is_before}
use Rattle.tune_sets.specs.Numbers.{is_among}
use Rattle.tune_sets.specs.Sets.{set_at}
use Rattle.tune_sets.specs.Calls.{places_of}
use Rattle.tune_sets.specs.declared.set_lists.TuneSet.{TuneSet}
use Rattle.tune_sets.specs.declared.faults.SetFault.{SetFault}

-- The set of a name has these places afterwards, or is refused so; each other name has the places
-- that it had, or is refused as it was.
pub record LeavesPlaces (name : List ℕ) (places : Result (List ℕ) SetFault) (old new : List TuneSet)
    : Type 0 where
  pub its : places_of name new ≡ places
  pub others : (other : List ℕ) → other ≢ name → places_of other new ≡ places_of other old

-- the set of a name holds a number
pub record HoldsNumber (number : ℕ) (name : List ℕ) (sets : List TuneSet) : Type 0 where
  pub set : TuneSet
  pub named : set_at name sets ≡ Some set
  pub among : is_among number set.numbers ≡ true

-- it holds the number, and no set of a lesser name does
pub record IsLeastHolder (number : ℕ) (name : List ℕ) (sets : List TuneSet) : Type 0 where
  pub holds : HoldsNumber number name sets
  pub least : (other : List ℕ) → is_before other name ≡ true → ¬ HoldsNumber number other sets
