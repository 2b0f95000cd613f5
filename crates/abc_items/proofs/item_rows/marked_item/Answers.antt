use Rattle.std.proofs.Common.{◌∙◌, ap, sym}
use Rattle.abc_items.specs.declared.kinds.Kind.TheVariants.{Quoted, Decoration, Grace, InlineField, Chord, Tuplet, Note, Other}
use Rattle.abc_items.specs.Inside.ItemRows.{front, or_else, chord}
use Rattle.abc_items.proofs.MarkedItems.{quoted_item, exclaimed_item, added_item, grace_item, bracket_item, tuplet_item, sharp_item, flat_item, natural_item}
use Rattle.abc_items.proofs.item_rows.marked_item.Goals as goal

pub returns-in-34-clause-value : goal.returns-in-34-clause-value
returns-in-34-clause-value c =
    c.of_row.ensures.value ∙ ap (λ found. or_else Quoted found (front Other 1)) c.enclosed.ensures.value
    ∙ quoted_item c.args.bytes.now c.requires.some c.in-34.is

pub returns-in-33-clause-value : goal.returns-in-33-clause-value
returns-in-33-clause-value c =
    c.of_row-in-33.ensures.value ∙ ap (λ found. or_else Decoration found (front Other 1)) c.enclosed-in-33.ensures.value
    ∙ exclaimed_item c.args.bytes.now c.requires.some c.in-33.is

pub returns-in-43-clause-value : goal.returns-in-43-clause-value
returns-in-43-clause-value c =
    c.of_row-in-43.ensures.value ∙ ap (λ found. or_else Decoration found (front Other 1)) c.enclosed-in-43.ensures.value
    ∙ added_item c.args.bytes.now c.requires.some c.in-43.is

pub returns-in-123-clause-value : goal.returns-in-123-clause-value
returns-in-123-clause-value c =
    c.of_row-in-123.ensures.value ∙ ap (λ found. or_else Grace found (front Other 1)) c.grace.ensures.value
    ∙ grace_item c.args.bytes.now c.requires.some c.in-123.is

pub returns-in-Some-clause-value : goal.returns-in-Some-clause-value
returns-in-Some-clause-value c =
    c.new.ensures
    ∙ ap (λ found. or_else InlineField found (or_else Chord (chord c.args.bytes.now) (front Other 1))) (sym c.in-Some.is ∙ c.inline_field.ensures.value)
    ∙ bracket_item c.args.bytes.now c.requires.some c.in-91.is

pub returns-in-None-clause-value : goal.returns-in-None-clause-value
returns-in-None-clause-value c =
    c.of_row-in-None.ensures.value ∙ ap (λ found. or_else Chord found (front Other 1)) c.chord.ensures.value
    ∙ ap (λ found. or_else InlineField found (or_else Chord (chord c.args.bytes.now) (front Other 1))) (sym c.in-None.is ∙ c.inline_field.ensures.value)
    ∙ bracket_item c.args.bytes.now c.requires.some c.in-91.is

pub returns-in-40-clause-value : goal.returns-in-40-clause-value
returns-in-40-clause-value c =
    c.of_row-in-40.ensures.value ∙ ap (λ found. or_else Tuplet found (front Other 1)) c.tuplet.ensures.value
    ∙ tuplet_item c.args.bytes.now c.requires.some c.in-40.is

pub returns-in-94-clause-value : goal.returns-in-94-clause-value
returns-in-94-clause-value c =
    c.of_row-in-94.ensures.value ∙ ap (λ found. or_else Note found (front Other 1)) c.note.ensures.value
    ∙ sharp_item c.args.bytes.now c.requires.some c.in-94.is

pub returns-in-61-clause-value : goal.returns-in-61-clause-value
returns-in-61-clause-value c =
    c.of_row-in-61.ensures.value ∙ ap (λ found. or_else Note found (front Other 1)) c.note-in-61.ensures.value
    ∙ natural_item c.args.bytes.now c.requires.some c.in-61.is

pub returns-in-95-clause-value : goal.returns-in-95-clause-value
returns-in-95-clause-value c =
    c.of_row-in-95.ensures.value ∙ ap (λ found. or_else Note found (front Other 1)) c.note-in-95.ensures.value
    ∙ flat_item c.args.bytes.now c.requires.some c.in-95.is
