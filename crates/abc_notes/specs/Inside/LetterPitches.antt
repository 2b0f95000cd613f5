-- How high letters sound in a signature.
use Rattle.std.specs.Prelude.{ℕ, ◌+◌, List, [], set, replicate, unwrap_or, ℤ, pos, ◌+ℤ◌, ◌*ℤ◌}
use Rattle.abc_keys.specs.declared.letters.Letter.{Letter}
use Rattle.abc_keys.specs.declared.letters.Letter.TheVariants.{C, D, E, F, G, A, B}
use Rattle.abc_keys.specs.declared.letters.Accidental.{Accidental}
use Rattle.abc_keys.specs.declared.signatures.Signature.{Signature}
use Rattle.abc_keys.specs.Letters.{letter_of, semitones_of}
use Rattle.abc_keys.specs.Signatures.{accidental_at}
use Rattle.abc_notes.specs.Music.{octave_of}
use Rattle.abc_notes.specs.Pitches.{letter_pitch}

-- the pitch of a letter with an accidental, in octave 0
abbrev pub pitch_in : Letter → Accidental → ℤ
pitch_in letter accidental = letter_pitch letter +ℤ semitones_of accidental

-- a row of pitches with that of a letter, as a capital and as a small letter
abbrev pub with_letter : ℕ → ℤ → List ℤ → List ℤ
with_letter place pitch row = set (set row place pitch) (place + 32) (pitch +ℤ pos 12)

-- those of the bytes from A to g
abbrev pub name_pitches : Signature → List ℤ
name_pitches s =
    with_letter 6 (pitch_in G s.g) (with_letter 5 (pitch_in F s.f) (with_letter 4 (pitch_in E s.e)
    (with_letter 3 (pitch_in D s.d) (with_letter 2 (pitch_in C s.c) (with_letter 1 (pitch_in B s.b)
    (with_letter 0 (pitch_in A s.a) (replicate 39 (pos 0))))))))

-- the pitch of a note that is this byte alone
abbrev pub name_pitch : Signature → ℕ → ℤ
name_pitch s name =
    let letter = unwrap_or (letter_of name) C in
    letter_pitch letter +ℤ pos 12 *ℤ octave_of name [] +ℤ semitones_of (accidental_at s letter)
