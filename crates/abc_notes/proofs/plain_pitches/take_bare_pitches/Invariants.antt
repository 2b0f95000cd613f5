use Rattle.std.proofs.Common.{◌≡◌, ◌<◌, ◌≤◌, List, [], ◌++◌, length, map, take, FitsSigned, w8}
use Rattle.std.specs.List.{AllWithin}
use Rattle.abc_notes.specs.Events.{Event}
use Rattle.abc_notes.specs.Inside.Bounds.{AreShort}
use Rattle.abc_notes.specs.Music.{line_events}
use Rattle.abc_notes.specs.Pitches.{counting, sounded_notes}
use Rattle.abc_notes.proofs.plain_pitches.take_bare_pitches.Given as goal

-- the pitches so far, and those of the items that are left, are those of all
abbrev pub invariant-items : goal.invariant-items
invariant-items l = record {
  few : l.taken < l.most;
  pitches : (tail : List Event)
      → map (λ n. n.pitch) (counting (sounded_notes l.letters [] (line_events l.base l.initial.items ++ tail)))
      ≡ take l.taken l.pitches ++ map (λ n. n.pitch) (counting (sounded_notes l.letters [] (line_events l.base l.items ++ tail)));
  fit : AllWithin (FitsSigned w8) l.pitches 0 l.taken;
  short : AreShort l.base l.items;
  fewer : length (line_events l.base l.items) ≤ length (line_events l.base l.initial.items);
}

abbrev pub decreases-items : goal.decreases-items
decreases-items l = length l.items
