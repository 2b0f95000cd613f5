-- Notes without accidentals, where the signature alone is in force.
use Rattle.std.specs.Prelude.{◌≡◌, ℕ, true, length, slice_index, None}
use Rattle.abc_keys.specs.declared.signatures.Signature.{Signature}
use Rattle.abc_keys.specs.Signatures.{accidental_at}
use Rattle.abc_items.specs.declared.items.Item.{Item}
use Rattle.abc_items.specs.NoteFronts.{own_accidental, is_note_name}
use Rattle.abc_items.specs.ItemSpans.{ItemSpan}
use Rattle.abc_notes.specs.Music.{written}
use Rattle.abc_notes.specs.Pitches.{SoundedNote, sounded}

-- an item of one byte, which names a letter and is no accidental
pub record IsBareNote (item : Item) : Type 0 where
  pub one : length item.text.now ≡ 1
  pub bare : own_accidental item.text.now ≡ None
  pub name : is_note_name (slice_index item.text.now 0) ≡ true

-- the note that an item is, as it sounds where the signature alone is in force
abbrev pub bare_note : Signature → ℕ → ItemSpan → SoundedNote
bare_note s base span =
    let n = written base true span in sounded n (accidental_at s n.letter)
