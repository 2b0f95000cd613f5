use Rattle.std.proofs.Common.{◌≡◌, ◌++◌, length}
use Rattle.abc_notes.specs.Inside.Bounds.{LinesAreShort}
use Rattle.abc_notes.specs.Music.{body_events}
use Rattle.abc_notes.proofs.tune_events.TuneEvents.first_event.Given as goal

-- the line in hand and the lines that are left give what all gave
abbrev pub invariant-lines : goal.invariant-lines
invariant-lines l =
    (l.self-inside.line ++ body_events l.self-inside.in_part l.self-inside.lines
    ≡ l.initial.self-inside.line ++ body_events l.initial.self-inside.in_part l.initial.self-inside.lines)
    × LinesAreShort l.self-inside.lines

abbrev pub decreases-lines : goal.decreases-lines
decreases-lines l = length l.self-inside.lines
