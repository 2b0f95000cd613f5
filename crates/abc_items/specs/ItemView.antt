-- An `Item` as a span of the text that it stands in.
use Rattle.abc_items.specs.ItemSpans.{ItemSpan}
use Rattle.abc_items.specs.declared.items.Item.{Item}

-- its kind, where it begins and ends, and its bytes
abbrev pub item_span : Item → ItemSpan
item_span item = record { kind = item.kind; from = item.from; to = item.to; bytes = item.text.now }
