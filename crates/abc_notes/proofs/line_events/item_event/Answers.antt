use Rattle.std.proofs.Common.{◌∙◌, sym}
use Rattle.abc_items.specs.ItemView.{item_span}
use Rattle.abc_notes.proofs.StreamLemmas.{field_item, plain_item_event}
use Rattle.abc_notes.proofs.line_events.item_event.Goals as goal

pub returns-in-InlineField : goal.returns-in-InlineField
returns-in-InlineField c = c.inline_event.ensures ∙ sym (field_item c.args.base c.args.item.kind (item_span c.args.item) c.in-InlineField.is)

pub returns-in_default : goal.returns-in_default
returns-in_default c =
    c.plain_event.ensures ∙ sym (plain_item_event c.args.base c.args.item.kind (item_span c.args.item) c.requires.no_chord c.in_default.not-InlineField)
