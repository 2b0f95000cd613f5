-- The items of a text, as the table of items says them (ABC 2.1, 3.2 and 4.1 to 4.19).
use Rattle.std.specs.Prelude.{ℕ, List}
use Rattle.abc_items.specs.Grammar.{ItemText, AreItems}
use Rattle.abc_items.specs.ItemSpans.{ItemSpan, item_spans_from}
use Rattle.abc_items.proofs.ItemLaw.{said_items}

-- the items that the text is: each text has one reading as items (`AreItems`, clause `are_items` of
-- `Items::new`), and no text has a second (clause `no_other_items`)
abbrev pub items_said : List ℕ → List ItemText
items_said text = let it : (items : List ItemText) × AreItems items text = said_items text in it.0

-- the same, and where each begins and ends
abbrev pub spans_said : List ℕ → List ItemSpan
spans_said text = item_spans_from 0 (items_said text)
