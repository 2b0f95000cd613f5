-- Notes are parts of their text, one after another.
use Rattle.std.specs.Prelude.{◌≡◌, ℕ, ◌<◌, ◌≤◌, List, [], ◌∷◌, length, slice_range, ⊤}
use Rattle.abc_notes.specs.Pitches.{SoundedNote}

-- a note has a byte, and is what stands in the text from where it begins to where it ends
pub record IsNotePart (text : List ℕ) (n : SoundedNote) : Type 0 where
  pub ordered : n.from < n.to
  pub within : n.to ≤ length text
  pub part : slice_range text n.from n.to ≡ n.bytes

-- each of the notes is a part of the text
abbrev pub AreNoteParts : List ℕ → List SoundedNote → Type 0
AreNoteParts text [] = ⊤
AreNoteParts text (n ∷ notes) = IsNotePart text n × AreNoteParts text notes

-- the first note begins nowhere below this, and each later one nowhere before the one before it
-- ends
abbrev pub NotesRise : ℕ → List SoundedNote → Type 0
NotesRise low [] = ⊤
NotesRise low (n ∷ notes) = (low ≤ n.from) × NotesRise n.to notes
