-- The events of a tune whose first line of the body is music.
use Rattle.std.proofs.Common.{◌≡◌, List, ◌∷◌, ◌++◌, Bool, None, sym}
use Rattle.abc_fields.specs.Lines.{Span as Line}
use Rattle.abc_fields.specs.LineKinds.{in_part_after}
use Rattle.abc_notes.specs.Events.{Event}
use Rattle.abc_notes.specs.Music.{body_events, line_meaning}
use Rattle.abc_notes.proofs.StreamLemmas.{body_step}

pub music_first : (in_part inside : Bool) (lines later : List Line) (line : Line) (music : List Event) → lines ≡ line ∷ later
    → music ≡ line_meaning in_part line → inside ≡ in_part_after in_part line.bytes
    → music ++ body_events inside later ≡ body_events in_part lines
music_first in_part inside lines later line music is meant goes = sym (body_step in_part inside lines later line None music is meant goes)
