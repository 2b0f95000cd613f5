-- Steps, one note after another.
use Rattle.std.specs.Prelude.{ℕ, ◌+◌, ◌-◌, List, [], ◌∷◌, ◌++◌, length, take, Option, Some, None}
use Rattle.std.specs.Prelude.{ℤ, ◌-ℤ◌}
use Rattle.abc_notes.specs.Pitches.{SoundedNote}
use Rattle.tune_incipit.specs.Incipits.{counting_pitches, differences}

-- the steps after one more pitch, where this was the last one before it
abbrev pub steps_and : List ℤ → Option ℤ → ℤ → List ℤ
steps_and steps None pitch = steps
steps_and steps (Some before) pitch = steps ++ (pitch -ℤ before) ∷ []

-- the steps from the last note, if one has come, through these pitches
unfoldable pub steps_on : Option ℤ → List ℤ → List ℤ
steps_on None pitches = differences pitches
steps_on (Some last) pitches = differences (last ∷ pitches)

-- how many notes have come, by the last one and the steps
abbrev pub notes_so_far : Option ℤ → List ℤ → ℕ
notes_so_far None steps = length steps
notes_so_far (Some last) steps = length steps + 1

-- the steps so far, and those of the notes that are left
unfoldable pub all_steps : ℕ → Option ℤ → List ℤ → List SoundedNote → List ℤ
all_steps count last steps notes =
    steps
    ++ steps_on last (take (count - notes_so_far last steps) (counting_pitches notes))
