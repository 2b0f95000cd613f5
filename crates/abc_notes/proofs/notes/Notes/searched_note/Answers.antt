use Rattle.std.proofs.Common.{Bool, true, false, List, [], ◌≡◌, ◌∙◌, sym, ap}
use Rattle.abc_notes.specs.Pitches.{SoundedNote}
use Rattle.abc_notes.specs.Inside.KeptBar.{asked_notes}
use Rattle.abc_notes.proofs.KeptLemmas.{notes_none}
use Rattle.abc_notes.proofs.notes.Notes.searched_note.Goals as goal

none_asked : (all : Bool) (notes : List SoundedNote) → notes ≡ [] → asked_notes all notes ≡ []
none_asked true notes none = none
none_asked false notes none = ap (asked_notes false) none

pub returns-in_default : goal.returns-in_default
returns-in_default c = (
  ap (asked_notes c.args.all) (sym c.self.view_is) ∙ sym c.events.invariant.notes
      ∙ none_asked c.args.all _
      (notes_none c.events.self-inside.bar c.events.self-inside.bar_events c.events.self-inside.events c.in_default.ensures.steps.0),
  none_asked c.args.all _ (notes_none c.events.self-inside.bar c.events.self-inside.bar_events c.next.new.self c.in_default.ensures.steps.1),
)
