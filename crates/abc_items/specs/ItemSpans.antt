-- The items of a text, and where each begins and ends.
use Rattle.std.specs.Prelude.{◌≡◌, ℕ, ◌+◌, ◌<◌, ◌≤◌, List, [], ◌∷◌, length, drop, slice_range}
use Rattle.abc_items.specs.declared.kinds.Kind.{Kind}
use Rattle.abc_items.specs.Grammar.{ItemText, IsItem, FitsRow}
use Rattle.abc_items.specs.Inside.ItemRows.{items_read}

-- the items that are read from a text: by the table (`AreItems`) they are its items, and it has no
-- others
abbrev pub items_of : List ℕ → List ItemText
items_of text = items_read text

-- an item, and where it begins and ends in its text, as indices of bytes from 0
pub record ItemSpan : Type 0 where
  pub kind : Kind
  pub from : ℕ
  pub to : ℕ
  pub bytes : List ℕ

-- items one after another, of which the first begins here
abbrev pub item_spans_from : ℕ → List ItemText → List ItemSpan
item_spans_from at [] = []
item_spans_from at (item ∷ items) =
    record { kind = item.kind; from = at; to = at + length item.text; bytes = item.text }
    ∷ item_spans_from (at + length item.text) items

-- the items of a text, and where each begins and ends
abbrev pub item_spans_of : List ℕ → List ItemSpan
item_spans_of text = item_spans_from 0 (items_of text)

-- what an item is, and its bytes, wherever it stands
abbrev pub item_text_of : ItemSpan → ItemText
item_text_of span = record { kind = span.kind; text = span.bytes }

-- the span begins at this index; it has a byte, is what stands in the text from where it begins to
-- where it ends, and is an item before the rest of the text
pub record IsSpanAt (text : List ℕ) (at : ℕ) (span : ItemSpan) : Type 0 where
  pub begins : span.from ≡ at
  pub some : span.from < span.to
  pub ends : span.to ≡ span.from + length span.bytes
  pub within : span.to ≤ length text
  pub part : slice_range text span.from span.to ≡ span.bytes
  pub item : IsItem span.kind span.bytes (drop span.to text)

-- spans that follow each other without gaps, from this index to the text's end
abbrev pub ItemSpansFill : List ℕ → ℕ → List ItemSpan → Type 0
ItemSpansFill text at [] = at ≡ length text
ItemSpansFill text at (span ∷ spans) = IsSpanAt text at span × ItemSpansFill text span.to spans

-- the bytes of a span are of its row, before the rest of the text
abbrev pub FitsItsRow : List ℕ → ItemSpan → Type 0
FitsItsRow text span = FitsRow span.kind span.bytes (drop span.to text)
