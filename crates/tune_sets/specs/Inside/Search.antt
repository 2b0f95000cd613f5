-- Where a name stands among sets by rising name.
use Rattle.std.specs.Prelude.{◌≡◌, ℕ, ◌<◌, ◌≤◌, List, [], ◌∷◌, length}
use Rattle.std.specs.Prelude.{slice_index_or, true}
use Rattle.std.specs.List.{AllWithin}
use Rattle.tune_sets.specs.Names.{is_before}
use Rattle.tune_sets.specs.declared.set_lists.TuneSet.{TuneSet}

-- the set at this index has the name
pub record NameFoundAt (name : List ℕ) (index : ℕ) (sets : List TuneSet) : Type 0 where
  pub within : index < length sets
  pub named : (d : TuneSet) → (slice_index_or sets index d).name ≡ name

-- no set has the name: those before this index have lesser names, and the others greater ones
pub record NameMissingAt (name : List ℕ) (index : ℕ) (sets : List TuneSet) : Type 0 where
  pub within : index ≤ length sets
  pub lesser : AllWithin (λ set. is_before set.name name ≡ true) sets 0 index
  pub greater : AllWithin (λ set. is_before name set.name ≡ true) sets index (length sets)

-- the name of the last set, or this one where there is none
abbrev pub last_name : List ℕ → List TuneSet → List ℕ
last_name low [] = low
last_name low (set ∷ sets) = last_name set.name sets
