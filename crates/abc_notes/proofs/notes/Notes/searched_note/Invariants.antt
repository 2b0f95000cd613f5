use Rattle.std.proofs.Common.{◌≡◌, length}
use Rattle.abc_notes.specs.Inside.KeptBar.{IsKeptBar, notes_left, asked_notes}
use Rattle.abc_notes.proofs.notes.Notes.searched_note.Given as goal

-- the notes that are asked for are among those left, and the bar is kept
abbrev pub invariant-events : goal.invariant-events
invariant-events l = record {
  notes : asked_notes l.all (notes_left l.self-inside.bar l.self-inside.bar_events l.self-inside.events)
      ≡ asked_notes l.all (notes_left l.initial.self-inside.bar l.initial.self-inside.bar_events l.initial.self-inside.events);
  kept : IsKeptBar l.self-inside.bar l.self-inside.bar_events l.self-inside.events;
}

abbrev pub decreases-events : goal.decreases-events
decreases-events l = length l.self-inside.events
