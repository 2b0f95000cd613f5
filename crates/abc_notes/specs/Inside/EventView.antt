-- A note and an event of the code as those that definitions speak of.
use Rattle.std.specs.Prelude.{List, [], ◌∷◌, Option, Some, None}
use Rattle.abc_keys.specs.Keys.{signature_of}
use Rattle.abc_notes.specs.SaidKeys.{key_said}
use Rattle.abc_notes.specs.declared.events.WrittenNote.{WrittenNote as CodeNote}
use Rattle.abc_notes.specs.declared.events.Event.{Event as CodeEvent}
use Rattle.abc_notes.specs.declared.events.Event.TheVariants.{Note, Bar, Change}
use Rattle.abc_notes.specs.declared.note_tokens.NoteToken.{NoteToken}
use Rattle.abc_notes.specs.Events.{WrittenNote, Event, note, bar, change}
use Rattle.abc_notes.specs.Pitches.{SoundedNote}
use Rattle.abc_notes.specs.Tokens.{token_note}

abbrev pub written_note : CodeNote → WrittenNote
written_note n = record {
  from = n.from;
  to = n.to;
  bytes = n.text.now;
  letter = n.letter;
  octave = n.octave;
  own = n.own;
  counts = n.counts;
}

abbrev pub event_of : CodeEvent → Event
event_of (Note n) = note (written_note n)
event_of Bar = bar
event_of (Change text) = change (signature_of (key_said text.now))

-- an event, if there is one, as a list
abbrev pub events_of : Option CodeEvent → List Event
events_of None = []
events_of (Some event) = event_of event ∷ []

-- a note, if there is one, as a list
abbrev pub notes_of_token : Option NoteToken → List SoundedNote
notes_of_token None = []
notes_of_token (Some token) = token_note token ∷ []
