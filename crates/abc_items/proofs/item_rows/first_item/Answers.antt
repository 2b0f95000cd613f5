use Rattle.std.proofs.Common.{rules, ◌≡◌, ◌∙◌, false, slice_index}
use Rattle.abc_items.specs.Plain.{begins_longer_row}
use Rattle.abc_items.proofs.PlainItems.{plain_item_at}
use Rattle.abc_items.proofs.item_rows.first_item.Goals as goal

pub returns-in-len1-up-clause-value : goal.returns-in-len1-up-clause-value
returns-in-len1-up-clause-value c =
    let other : begins_longer_row (slice_index c.args.bytes.now 0) ≡ false = search rules in
    c.plain_front.ensures.value ∙ plain_item_at c.args.bytes.now c.requires.some other
