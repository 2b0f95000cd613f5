-- What a table of a bar's accidentals holds: an entry for each letter in each of sixteen octaves.
use Rattle.std.specs.Prelude.{◌≡◌, ℕ, ◌+◌, ◌*◌, false, ℤ, pos, negsuc, ◌+ℤ◌}
use Rattle.std.specs.Prelude.{◌≤ℤ◌, ◌<ℤ◌, Option, None, slice_index_or, List, length, nat_abs}
use Rattle.abc_keys.specs.declared.letters.Letter.{Letter}
use Rattle.abc_keys.specs.declared.letters.Accidental.{Accidental}
use Rattle.abc_keys.specs.SameScales.{letter_number}
use Rattle.abc_notes.specs.declared.bar.Bar.{Bar}
use Rattle.abc_notes.specs.Events.{Event}
use Rattle.abc_notes.specs.Pitches.{borne, in_force}

-- the octaves that have entries
abbrev pub IsNearOctave : ℤ → Type 0
IsNearOctave octave = (negsuc 7 ≤ℤ octave) × (octave <ℤ pos 8)

abbrev pub index_of : Letter → ℤ → ℕ
index_of letter octave = 7 * nat_abs (octave +ℤ pos 8) + letter_number letter

abbrev pub held_in : List (Option Accidental) → Letter → ℤ → Option Accidental
held_in entries letter octave = slice_index_or entries (index_of letter octave) None

-- the entries are what the bar bears so far, newest event first
abbrev pub HoldsBar : List (Option Accidental) → List Event → Type 0
HoldsBar entries past =
    (letter : Letter) (octave : ℤ) → IsNearOctave octave
    → held_in entries letter octave ≡ borne past letter octave

-- what is kept of a bar is that of its events so far, newest first
pub record IsBarAfter (past : List Event) (b : Bar) : Type 0 where
  pub count : b.since ≡ length past
  pub current : b.signature ≡ in_force b.start past
  pub near : HoldsBar b.entries past
  pub clear : b.has_near ≡ false → (letter : Letter) (octave : ℤ) → IsNearOctave octave
      → held_in b.entries letter octave ≡ None
  pub far : b.has_far ≡ false → (letter : Letter) (octave : ℤ) → (IsNearOctave octave → ⊥)
      → borne past letter octave ≡ None
