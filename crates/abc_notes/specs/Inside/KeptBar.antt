-- What a reader of notes keeps of the bar that it is in.
use Rattle.std.specs.Prelude.{◌≡◌, ◌+◌, ◌≤◌, ℕ, Bool, true, false, List, take, drop, reverse}
use Rattle.std.specs.Prelude.{length}
use Rattle.abc_fields.specs.Limits.{longest_book}
use Rattle.abc_notes.specs.declared.bar.Bar.{Bar}
use Rattle.abc_notes.specs.Events.{Event}
use Rattle.abc_notes.specs.Pitches.{SoundedNote, sounded_notes, counting}
use Rattle.abc_notes.specs.Inside.BarTables.{IsBarAfter}

-- the first so many events of a bar, newest first
unfoldable pub past_of : ℕ → List Event → List Event
past_of since events = reverse (take since events)

-- the notes that are left after them
abbrev pub notes_left : Bar → List Event → List Event → List SoundedNote
notes_left b bar_events events = sounded_notes b.start (past_of b.since bar_events) events

-- the events of the bar so far lead to those that are left, and the bar is kept as they leave it
pub record IsKeptBar (b : Bar) (bar_events events : List Event) : Type 0 where
  pub follows : drop b.since bar_events ≡ events
  pub after : IsBarAfter (past_of b.since bar_events) b
  pub few : b.since + length events ≤ longest_book

-- the notes that a reader is asked for: all, or those that count
abbrev pub asked_notes : Bool → List SoundedNote → List SoundedNote
asked_notes true notes = notes
asked_notes false notes = counting notes
