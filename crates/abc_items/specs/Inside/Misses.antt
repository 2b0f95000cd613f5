-- What a reader of items remembers of closing marks that it sought and did not find.
use Rattle.std.specs.Prelude.{ℕ, List, Bool, IsTrue}
use Rattle.abc_items.specs.declared.item_rows.Misses.{Misses}
use Rattle.abc_items.specs.Marks.{closing_brace, closing_bracket, has_no}

-- a mark that is remembered as missing stands nowhere in the text
abbrev pub IsMissing : ℕ → Bool → List ℕ → Type 0
IsMissing mark missing text = IsTrue missing → IsTrue (has_no mark text)

pub record AreMissing (misses : Misses) (text : List ℕ) : Type 0 where
  pub brace : IsMissing closing_brace misses.brace text
  pub bracket : IsMissing closing_bracket misses.bracket text
