use Rattle.std.proofs.Common.{◌∙◌, sym, ap, subst, List, []}
use Rattle.abc_fields.specs.Values.{uncommented}
use Rattle.abc_items.specs.ItemSpans.{item_spans_from, item_spans_of}
use Rattle.abc_items.proofs.ItemLaw.{items_unique}
use Rattle.abc_keys.specs.Keys.{signature_of}
use Rattle.abc_notes.specs.Music.{line_events}
use Rattle.abc_notes.specs.NoteParts.{AreNoteParts, NotesRise}
use Rattle.abc_notes.specs.Pitches.{SoundedNote, sounded_notes}
use Rattle.abc_notes.proofs.NoteParts.{line_parts, line_rise}
use Rattle.abc_notes.proofs.notes.Notes.of_line.Goals as goal

pub returns-clause-notes : goal.returns-clause-notes
returns-clause-notes c =
    c.new.ensures
    ∙ (λ i. sounded_notes ((c.known.ensures ∙ c.signature.ensures) i) [] (c.of_line.ensures.events i))
    ∙ ap (λ line. sounded_notes (signature_of c.args.key.now) [] (line_events 0 (item_spans_of line))) c.without_comment.ensures.value

pub returns-clause-by_any_items : goal.returns-clause-by_any_items
returns-clause-by_any_items c = λ items are.
    returns-clause-notes c
    ∙ ap (λ all. sounded_notes (signature_of c.args.key.now) [] (line_events 0 (item_spans_from 0 all)))
    (sym (items_unique (uncommented c.args.line.now) items are))

pub returns-clause-parts : goal.returns-clause-parts
returns-clause-parts c =
    subst (λ (notes : List SoundedNote). AreNoteParts c.args.line.now notes) (sym (returns-clause-notes c))
    (line_parts (signature_of c.args.key.now) c.args.line.now)

pub returns-clause-rise : goal.returns-clause-rise
returns-clause-rise c =
    subst (λ (notes : List SoundedNote). NotesRise 0 notes) (sym (returns-clause-notes c)) (line_rise (signature_of c.args.key.now) c.args.line.now)
