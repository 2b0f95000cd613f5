use Rattle.std.proofs.Common.{◌≡◌, length}
use Rattle.abc_notes.specs.Inside.Bounds.{AreShort}
use Rattle.abc_notes.specs.Music.{chord_events}
use Rattle.abc_notes.proofs.chord_events.ChordEvents.next_plain.Given as goal

-- the items that are left give what all of them gave
abbrev pub invariant-items : goal.invariant-items
invariant-items l =
    (chord_events l.self-inside.base l.self-inside.first l.self-inside.items
    ≡ chord_events l.initial.self-inside.base l.initial.self-inside.first l.initial.self-inside.items)
    × AreShort l.self-inside.base l.self-inside.items

abbrev pub decreases-items : goal.decreases-items
decreases-items l = length l.self-inside.items
