-- Accidentals in force, and pitches (ABC 2.1, 4.1 and 4.2; own profile: an accidental holds for its
-- letter and octave up to the bar).
use Rattle.std.specs.Prelude.{◌≡◌, ℕ, ◌==◌, ◌&&◌, if◌then◌else◌, is_some, Bool, false, List, []}
use Rattle.std.specs.Prelude.{◌∷◌, ◌++◌, Option, Some, None, unwrap_or, ℤ, pos, negsuc, ◌+ℤ◌, ◌*ℤ◌}
use Rattle.std.specs.Prelude.{filter, ⊤, ◌⊎◌}
use Rattle.abc_keys.specs.declared.letters.Letter.{Letter}
use Rattle.abc_keys.specs.declared.letters.Letter.TheVariants.{C, D, E, F, G, A, B}
use Rattle.abc_keys.specs.declared.letters.Accidental.{Accidental}
use Rattle.abc_keys.specs.declared.signatures.Signature.{Signature}
use Rattle.abc_keys.specs.Letters.{semitones_of}
use Rattle.abc_keys.specs.Signatures.{accidental_at}
use Rattle.abc_keys.specs.SameScales.{letter_number}
use Rattle.abc_notes.specs.Events.{WrittenNote, Event, note, bar, change}

-- THE ACCIDENTAL IN FORCE
abbrev pub same_octave : ℤ → ℤ → Bool
same_octave (pos a) (pos b) = a == b
same_octave (negsuc a) (negsuc b) = a == b
same_octave _ _ = false

-- whether two notes have one letter and octave
abbrev pub same_note : Letter → ℤ → Letter → ℤ → Bool
same_note a m b n = letter_number a == letter_number b && same_octave m n

-- whether a note is of this letter and octave
abbrev pub is_at : WrittenNote → Letter → ℤ → Bool
is_at n letter octave = same_note n.letter n.octave letter octave

-- What the events before a note, newest first, leave in force at a letter and octave: the
-- accidental of the last note there that bears one, after the last bar.
unfoldable pub borne : List Event → Letter → ℤ → Option Accidental
borne [] letter octave = None
borne (note n ∷ past) letter octave =
    if is_at n letter octave && is_some n.own then n.own else borne past letter octave
borne (bar ∷ past) letter octave = None
borne (change s ∷ past) letter octave = borne past letter octave

-- the signature in force after these events, newest first, where this one was in force before them
unfoldable pub in_force : Signature → List Event → Signature
in_force first [] = first
in_force first (note n ∷ past) = in_force first past
in_force first (bar ∷ past) = in_force first past
in_force first (change s ∷ past) = s

-- the note's own; else that of the last earlier note there that bears one, after the last bar; else
-- that of the signature in force
abbrev pub accidental_of_note : Signature → List Event → WrittenNote → Accidental
accidental_of_note first past n =
    unwrap_or n.own
    (unwrap_or (borne past n.letter n.octave) (accidental_at (in_force first past) n.letter))

-- PITCHES
-- semitones from C
abbrev pub letter_pitch : Letter → ℤ
letter_pitch C = pos 0
letter_pitch D = pos 2
letter_pitch E = pos 4
letter_pitch F = pos 5
letter_pitch G = pos 7
letter_pitch A = pos 9
letter_pitch B = pos 11

abbrev pub pitch_of : WrittenNote → Accidental → ℤ
pitch_of n accidental = letter_pitch n.letter +ℤ pos 12 *ℤ n.octave +ℤ semitones_of accidental

-- a note as it sounds
pub record SoundedNote : Type 0 where
  pub from : ℕ
  pub to : ℕ
  pub bytes : List ℕ
  pub pitch : ℤ
  pub counts : Bool

abbrev pub sounded : WrittenNote → Accidental → SoundedNote
sounded n accidental = record {
  from = n.from;
  to = n.to;
  bytes = n.bytes;
  pitch = pitch_of n accidental;
  counts = n.counts;
}

-- the notes of events, each against the events before it; those of `past`, newest first, came
-- before the first
unfoldable pub sounded_notes : Signature → List Event → List Event → List SoundedNote
sounded_notes first past [] = []
sounded_notes first past (note n ∷ events) =
    sounded n (accidental_of_note first past n) ∷ sounded_notes first (note n ∷ past) events
sounded_notes first past (bar ∷ events) = sounded_notes first (bar ∷ past) events
sounded_notes first past (change s ∷ events) = sounded_notes first (change s ∷ past) events

-- those of the notes that count
abbrev pub counting : List SoundedNote → List SoundedNote
counting notes = filter (λ note. note.counts) notes

-- THE RULE OF ACCIDENTALS IN A READER'S WORDS
-- no bar, and no note that bears an accidental at this note's letter and octave
abbrev pub IsSilentFor : WrittenNote → List Event → Type 0
IsSilentFor n [] = ⊤
IsSilentFor n (note m ∷ events) =
    (m.letter ≡ n.letter → m.octave ≡ n.octave → m.own ≡ None) × IsSilentFor n events
IsSilentFor n (bar ∷ events) = ⊥
IsSilentFor n (change s ∷ events) = IsSilentFor n events

-- nothing since the last bar, or since the beginning, says anything of this note
abbrev pub IsUnmarked : WrittenNote → List Event → Type 0
IsUnmarked n past =
    IsSilentFor n past
    ⊎ ((since before : List Event) × (since ++ (bar ∷ before) ≡ past) × IsSilentFor n since)

-- The accidental of a note after these events, newest first: its own; else that of the last note of
-- its letter and octave that bears one, where no bar has come since; else that of the signature.
pub record FollowsTheRule (first : Signature) (past : List Event) (n : WrittenNote) : Type 0 where
  pub own : (accidental : Accidental) → n.own ≡ Some accidental
      → accidental_of_note first past n ≡ accidental
  pub earlier : (since before : List Event) (m : WrittenNote) (accidental : Accidental)
      → since ++ (note m ∷ before) ≡ past → IsSilentFor n since
      → m.letter ≡ n.letter → m.octave ≡ n.octave → m.own ≡ Some accidental → n.own ≡ None
      → accidental_of_note first past n ≡ accidental
  pub signature : n.own ≡ None → IsUnmarked n past
      → accidental_of_note first past n ≡ accidental_at (in_force first past) n.letter
