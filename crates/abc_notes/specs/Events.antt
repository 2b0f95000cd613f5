-- What decides the pitches of a tune, in the order of its text: notes, bars and changes of key.
use Rattle.std.specs.Prelude.{ℕ, List, Bool, Option, ℤ}
use Rattle.abc_keys.specs.declared.letters.Letter.{Letter}
use Rattle.abc_keys.specs.declared.letters.Accidental.{Accidental}
use Rattle.abc_keys.specs.declared.signatures.Signature.{Signature}

-- a note as it is written (ABC 2.1, 4.1 and 4.2): where it begins and ends in the text, its bytes,
-- its letter and octave, its own accidental, and whether it counts
pub record WrittenNote : Type 0 where
  pub from : ℕ
  pub to : ℕ
  pub bytes : List ℕ
  pub letter : Letter
  pub octave : ℤ
  pub own : Option Accidental
  pub counts : Bool

pub data Event : Type 0 where
  note : WrittenNote → Event
  bar : Event
  change : Signature → Event
