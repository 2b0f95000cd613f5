-- The lines of a file header that some tune carries, each with its rule, as the code keeps them.
use Rattle.std.specs.Prelude.{◌≡◌, ℕ, ◌+◌, ◌<◌, ◌≤◌, List, [], ◌∷◌, ◌++◌, map, length, Bool, true}
use Rattle.std.specs.Prelude.{false, if◌then◌else◌, slice_index_or, ⊤}
use Rattle.std.specs.List.{list_all, AllByRecursion}
use Rattle.abc_fields.specs.Limits.{longest_book}
use Rattle.abc_fields.specs.Tunes.{joined}
use Rattle.abc_fields.specs.Fields.{header_of}
use Rattle.abc_fields.specs.FileHeaders.{block_of, first_block, is_header_line, rule_of, rule_below}
use Rattle.abc_fields.specs.FileHeaders.{carries, has_letter, before_key}
use Rattle.abc_fields.specs.declared.carry_rules.CarryRule.{CarryRule}
use Rattle.abc_fields.specs.declared.carry_rules.CarryRule.TheVariants.{Never, Always, Unless}
use Rattle.abc_fields.specs.declared.file_header.HeaderLine.{HeaderLine}
use Rattle.abc_fields.specs.declared.file_header.RuleSum.{RuleSum}

-- a line, and which tunes carry it
pub record HeaderRow : Type 0 where
  pub rule : CarryRule
  pub text : List ℕ

abbrev pub row_list : List HeaderLine → List HeaderRow
row_list lines = map (λ line. record { rule = line.rule; text = line.text.now }) lines

-- rows, and one more, unless no tune carries it
abbrev pub rows_with : List HeaderRow → CarryRule → List ℕ → List HeaderRow
rows_with rows Never text = rows
rows_with rows Always text = rows ++ record { rule = Always; text = text } ∷ []
rows_with rows (Unless letter) text = rows ++ record { rule = Unless letter; text = text } ∷ []

-- the rows of lines, after these rows and below a field line of this rule
abbrev pub header_rows_after : List HeaderRow → CarryRule → List (List ℕ) → List HeaderRow
header_rows_after rows above [] = rows
header_rows_after rows above (line ∷ lines) =
    header_rows_after (rows_with rows (rule_of above line) line) (rule_below above line) lines

abbrev pub rows_of_block : List HeaderRow → CarryRule → List (List ℕ) → List HeaderRow
rows_of_block rows above block =
    if list_all is_header_line block then header_rows_after rows above block else []

-- the rows of the file header of lines
abbrev pub header_rows : List (List ℕ) → List HeaderRow
header_rows lines = rows_of_block [] Never (first_block lines)

-- the rows, where the first block has begun or has not
abbrev pub open_rows : Bool → List HeaderRow → CarryRule → List (List ℕ) → List HeaderRow
open_rows false rows above lines = header_rows lines
open_rows true rows above lines = rows_of_block rows above (block_of lines)

-- the lines of rows that a tune carries whose own header has the fields of these letters
abbrev pub taken_lines : (ℕ → Bool) → List HeaderRow → List (List ℕ)
taken_lines owns [] = []
taken_lines owns (row ∷ rows) =
    if carries owns row.rule then row.text ∷ taken_lines owns rows else taken_lines owns rows

-- the lines of a tune, with those that it carries of these rows
abbrev pub with_rows : List HeaderRow → List (List ℕ) → List (List ℕ)
with_rows rows run = before_key (taken_lines (has_letter (header_of run)) rows) run

-- LETTERS
-- whether a table of letters has this one
abbrev pub in_table : List Bool → ℕ → Bool
in_table table letter = slice_index_or table letter false

-- a table that tells which fields a header has
abbrev pub IsTableOf : List Bool → List (List ℕ) → Type 0
IsTableOf table own = (letter : ℕ) → letter < 256 → in_table table letter ≡ has_letter own letter

-- a rule by a letter that is a byte
abbrev pub IsByteRule : CarryRule → Type 0
IsByteRule (Unless letter) = letter < 256
IsByteRule rule = ⊤

abbrev pub AreByteRows : List HeaderRow → Type 0
AreByteRows rows = AllByRecursion (λ row. IsByteRule row.rule) rows

-- SUMS
-- the bytes of the lines that such a tune carries, by the sums of the rules
abbrev pub sum_carried : (ℕ → Bool) → List RuleSum → ℕ
sum_carried owns [] = 0
sum_carried owns (sum ∷ sums) =
    (if carries owns sum.rule then sum.length else 0) + sum_carried owns sums

-- the bytes of all these sums
abbrev pub sum_all : List RuleSum → ℕ
sum_all [] = 0
sum_all (sum ∷ sums) = sum.length + sum_all sums

-- rows and the sums of their bytes by rules, each line with its line feed
pub record AreSums (rows : List HeaderRow) (sums : List RuleSum) : Type 0 where
  pub each : (owns : ℕ → Bool) → sum_carried owns sums ≡ length (joined (taken_lines owns rows))
  pub few : sum_all sums ≤ longest_book + 1
  pub bytes : AreByteRows rows

-- TUNES
-- these tunes, each with the lines that it carries of these rows
abbrev pub runs_with : List HeaderRow → List (List (List ℕ)) → List (List (List ℕ))
runs_with rows runs = map (with_rows rows) runs

-- their texts
abbrev pub texts_with : List HeaderRow → List (List (List ℕ)) → List (List ℕ)
texts_with rows runs = map joined (runs_with rows runs)
