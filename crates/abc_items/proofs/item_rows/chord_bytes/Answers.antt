use Rattle.std.proofs.Common.{sym, ◌∙◌}
use Rattle.abc_items.proofs.ClosingMarks.{chord_search_is}
use Rattle.abc_items.proofs.MarkedItems.{no_chord_bytes}
use Rattle.abc_items.proofs.item_rows.chord_bytes.Goals as goal

pub returns-then-not-begins_with_chord_byte-clause-value : goal.returns-then-not-begins_with_chord_byte-clause-value
returns-then-not-begins_with_chord_byte-clause-value c =
    sym (no_chord_bytes c.args.bytes.now (sym c.begins_with_chord_byte.ensures ∙ c.if-not-begins_with_chord_byte.true))

pub returns-clause-value : goal.returns-clause-value
returns-clause-value c = c.unwrap_or.ensures ∙ sym (chord_search_is c.args.bytes.now c.memchr3.result c.memchr3.ensures)
