use Rattle.std.proofs.Common.{◌≡◌, ◌++◌, [], false, length}
use Rattle.abc_notes.specs.Inside.Bounds.{AreShort}
use Rattle.abc_notes.specs.Music.{line_events}
use Rattle.abc_notes.proofs.line_events.LineEvents.first_event.Given as goal

-- the chord in hand and the items that are left give what all gave
abbrev pub invariant-items : goal.invariant-items
invariant-items l =
    (l.self-inside.chord ++ line_events l.self-inside.base l.self-inside.items
    ≡ l.initial.self-inside.chord ++ line_events l.initial.self-inside.base l.initial.self-inside.items)
    × (AreShort l.self-inside.base l.self-inside.items × (l.self-inside.in_chord ≡ false → l.self-inside.chord ≡ []))

abbrev pub decreases-items : goal.decreases-items
decreases-items l = length l.self-inside.items
