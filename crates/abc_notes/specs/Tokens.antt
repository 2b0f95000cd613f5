-- A token as the sounded note that it is.
use Rattle.abc_notes.specs.declared.note_tokens.NoteToken.{NoteToken}
use Rattle.abc_notes.specs.Pitches.{SoundedNote}

abbrev pub token_note : NoteToken → SoundedNote
token_note token = record {
  from = token.from;
  to = token.to;
  bytes = token.text.now;
  pitch = token.pitch;
  counts = token.counts;
}
