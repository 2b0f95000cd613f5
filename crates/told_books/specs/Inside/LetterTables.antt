-- What the tables of letters say.
use Rattle.std.specs.Prelude.{◌≡◌, ℕ, ◌<◌, List, Bool, false, slice_index_or}
use Rattle.abc_fields.specs.FileHeaders.{has_letter}
use Rattle.abc_fields.specs.declared.carry_rules.CarryRule.TheVariants.{Always, Unless}
use Rattle.told_books.specs.Fates.{some_carries}
use Rattle.told_books.specs.declared.tune_letters.SomeCarry.{SomeCarry}

-- whether a table of letters has this one
abbrev pub letter_in_table : List Bool → ℕ → Bool
letter_in_table table letter = slice_index_or table letter false

-- a table that tells which fields a header has
abbrev pub IsLetterTableOf : List Bool → List (List ℕ) → Type 0
IsLetterTableOf table own = (letter : ℕ) → letter < 256 → letter_in_table table letter
    ≡ has_letter own letter

-- tells which lines of a file header some tune of these carries
pub record TellsCarried (carry : SomeCarry) (runs : List (List (List ℕ))) : Type 0 where
  pub always : carry.always ≡ some_carries runs Always
  pub unless : (letter : ℕ) → letter < 256
      → letter_in_table carry.unless letter ≡ some_carries runs (Unless letter)
