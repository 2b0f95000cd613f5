use Rattle.std.proofs.Common.{◌≡◌, ◌≤◌, length}
use Rattle.abc_notes.specs.Inside.KeptBar.{IsKeptBar, notes_left, asked_notes}
use Rattle.abc_notes.proofs.notes.plain_note.Given as goal

-- the notes that are asked for are among those left, and the bar is kept
abbrev pub invariant-events : goal.invariant-events
invariant-events l = record {
  notes : asked_notes l.all (notes_left l.bar l.bar_events l.events)
      ≡ asked_notes l.all (notes_left l.initial.bar l.initial.bar_events l.initial.events);
  kept : IsKeptBar l.bar l.bar_events l.events;
  shorter : length l.events ≤ length l.initial.events;
}

abbrev pub decreases-events : goal.decreases-events
decreases-events l = length l.events
