-- Incipits: the steps between the first notes of a tune that count (own profile).
use Rattle.std.specs.Prelude.{ℕ, List, [], ◌∷◌, map, filter, take, ℤ, ◌+ℤ◌, ◌-ℤ◌, Bool}
use Rattle.std.specs.List.{starts_with}
use Rattle.std.specs.Ordering.{int_eq}
use Rattle.abc_keys.specs.Signatures.{no_accidentals}
use Rattle.abc_notes.specs.Pitches.{SoundedNote, sounded_notes}
use Rattle.abc_notes.specs.Music.{tune_events, tune_signature, music_events}

-- STEPS BETWEEN NOTES
-- the pitches of the notes that count, in order
abbrev pub counting_pitches : List SoundedNote → List ℤ
counting_pitches notes = map (λ note. note.pitch) (filter (λ note. note.counts) notes)

-- the semitones from each pitch to its neighbour
unfoldable pub differences : List ℤ → List ℤ
differences [] = []
differences (only ∷ []) = []
differences (first ∷ second ∷ pitches) = (second -ℤ first) ∷ differences (second ∷ pitches)

-- the incipit of these notes: the steps between the first so many that count
unfoldable pub incipit_of : ℕ → List SoundedNote → List ℤ
incipit_of count notes = differences (take count (counting_pitches notes))

-- WHOSE NOTES
-- those of a tune's text
abbrev pub tune_notes : List ℕ → List SoundedNote
tune_notes text = sounded_notes (tune_signature text) [] (tune_events text)

-- those of a query: one music line in C, which has no sharps and no flats
abbrev pub query_notes : List ℕ → List SoundedNote
query_notes query = sounded_notes no_accidentals [] (music_events 0 query)

-- WHICH TUNES STEPS FIND
-- whether a list of steps begins with another
abbrev pub begins_steps : List ℤ → List ℤ → Bool
begins_steps steps front = starts_with int_eq steps front

-- whether the incipit of the tune of this text, by so many notes, begins with these steps
abbrev pub finds_steps : ℕ → List ℤ → List ℕ → Bool
finds_steps notes steps text = begins_steps (incipit_of notes (tune_notes text)) steps

-- A TUNE PLAYED HIGHER OR LOWER
-- a note that sounds so many semitones higher
abbrev pub raised_note : ℤ → SoundedNote → SoundedNote
raised_note by note = record note { pitch = note.pitch +ℤ by }

abbrev pub raised : ℤ → List SoundedNote → List SoundedNote
raised by notes = map (raised_note by) notes
