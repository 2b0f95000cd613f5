use Rattle.std.proofs.Common.{◌≡◌, ◌-◌, List}
use Rattle.abc_notes.specs.Events.{Event}
use Rattle.abc_notes.specs.Inside.KeptBar.{past_of}
use Rattle.abc_notes.specs.Pitches.{borne}
use Rattle.abc_notes.proofs.BarLemmas.{events_read_on}
use Rattle.abc_notes.proofs.borne_accidentals.recall.Given as goal

-- what was found is borne by the events that were read, and those and the others are the bar so far
abbrev pub invariant-loop-turn : goal.invariant-loop-turn
invariant-loop-turn l = (past : List Event) × (l.found ≡ borne past l.note.letter l.note.octave)
    × (events_read_on (l.since - l.turn) l.events past ≡ past_of l.since l.fn.bar_events)
