use Rattle.std.proofs.Common.{◌∙◌, sym, subst, List, [], refl, false}
use Rattle.abc_fields.specs.Lines.{spans_of as lines_of}
use Rattle.abc_notes.specs.Music.{tune_events, tune_signature}
use Rattle.abc_notes.specs.NoteParts.{AreNoteParts, NotesRise}
use Rattle.abc_notes.specs.Pitches.{SoundedNote, sounded_notes}
use Rattle.abc_notes.proofs.NoteParts.{tune_parts, tune_rise}
use Rattle.abc_notes.proofs.PartLaw.{lines_given, given_same}
use Rattle.abc_notes.proofs.RuleLaw.{follows_the_rule}
use Rattle.abc_notes.proofs.notes.Notes.of_tune.Goals as goal

pub returns-clause-notes : goal.returns-clause-notes
returns-clause-notes c = c.new.ensures ∙ (λ i. sounded_notes ((c.of_text.ensures ∙ c.of_tune-events.ensures.key) i) [] (c.of_tune-events.ensures.events i))

pub returns-clause-parts : goal.returns-clause-parts
returns-clause-parts c =
    subst (λ (notes : List SoundedNote). AreNoteParts c.args.text.now notes) (sym (returns-clause-notes c))
    (tune_parts (tune_signature c.args.text.now) c.args.text.now)

pub returns-clause-rise : goal.returns-clause-rise
returns-clause-rise c =
    subst (λ (notes : List SoundedNote). NotesRise 0 notes) (sym (returns-clause-notes c)) (tune_rise (tune_signature c.args.text.now) c.args.text.now)

pub returns-clause-accidentals : goal.returns-clause-accidentals
returns-clause-accidentals c = follows_the_rule

pub returns-clause-by_lines : goal.returns-clause-by_lines
returns-clause-by_lines c = lines_given [] (lines_of c.args.text.now) false refl refl

pub returns-clause-no_other_events : goal.returns-clause-no_other_events
returns-clause-no_other_events c = λ events are.
    given_same [] (lines_of c.args.text.now) events (tune_events c.args.text.now) are (lines_given [] (lines_of c.args.text.now) false refl refl)
