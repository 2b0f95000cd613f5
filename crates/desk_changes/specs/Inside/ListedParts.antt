-- What one part of an entry adds to the subjects of its change.
use Rattle.std.specs.Prelude.{ℕ, List, [], ◌∷◌}
use Rattle.tune_undo.specs.declared.old_entries.Part.{Part}
use Rattle.tune_undo.specs.declared.old_entries.Part.TheVariants.{Tune, Set}

abbrev pub tunes_of_part : Part → List ℕ
tunes_of_part (Tune number was is) = number ∷ []
tunes_of_part (Set name was is) = []

abbrev pub part_set : Part → List (List ℕ)
part_set (Tune number was is) = []
part_set (Set name was is) = name ∷ []
