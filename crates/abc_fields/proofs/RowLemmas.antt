-- The lines that a tune carries of the rows of a file header are those that it carries of the header.
use Rattle.std.proofs.Common.{◌≡◌, ℕ, Bool, true, false, not, cond, List, [], ◌∷◌, ◌++◌, map, refl, ap, sym, ◌∙◌, append_assoc, append-nil}
use Rattle.std.specs.List.{list_all}
use Rattle.abc_fields.specs.Fields.{header_of}
use Rattle.abc_fields.specs.Tunes.{tune_runs}
use Rattle.abc_fields.specs.Books.{whole_runs}
use Rattle.abc_fields.specs.FileHeaders.{first_block, file_header, is_header_line, rule_of, rule_below, carries, carried, has_letter, before_key, with_header}
use Rattle.abc_fields.specs.Inside.HeaderRows.{HeaderRow, rows_with, header_rows_after, header_rows, taken_lines, runs_with, in_table, IsTableOf, IsByteRule}
use Rattle.abc_fields.specs.Inside.HeaderRows.{AreByteRows}
use Rattle.abc_fields.specs.declared.carry_rules.CarryRule.{CarryRule}
use Rattle.abc_fields.specs.declared.carry_rules.CarryRule.TheVariants.{Never, Always, Unless}
use Rattle.abc_fields.proofs.RuleSums.{one_if, taken-with}

taken_step : (is : Bool) (line : List ℕ) (rest : List (List ℕ)) → one_if is line ++ rest ≡ cond is (line ∷ rest) rest
taken_step true line rest = refl
taken_step false line rest = refl

taken-after : (owns : ℕ → Bool) (rows : List HeaderRow) (above : CarryRule) (block : List (List ℕ))
    → taken_lines owns (header_rows_after rows above block) ≡ taken_lines owns rows ++ carried owns above block
taken-after owns rows above [] = sym (append-nil (taken_lines owns rows))
taken-after owns rows above (line ∷ block) =
    let rest = carried owns (rule_below above line) block in
    taken-after owns (rows_with rows (rule_of above line) line) (rule_below above line) block
    ∙ ap (λ ls. ls ++ rest) (taken-with owns rows (rule_of above line) line)
    ∙ append_assoc (taken_lines owns rows) (one_if (carries owns (rule_of above line)) line) rest
    ∙ ap (λ ls. taken_lines owns rows ++ ls) (taken_step (carries owns (rule_of above line)) line rest)

taken_if : (owns : ℕ → Bool) (block : List (List ℕ)) (all : Bool)
    → taken_lines owns (cond all (header_rows_after [] Never block) []) ≡ carried owns Never (cond all block [])
taken_if owns block true = taken-after owns [] Never block
taken_if owns block false = refl

-- what a tune carries of the rows is what it carries of the file header
taken_rows : (owns : ℕ → Bool) (lines : List (List ℕ)) → taken_lines owns (header_rows lines) ≡ carried owns Never (file_header lines)
taken_rows owns lines = taken_if owns (first_block lines) (list_all is_header_line (first_block lines))

runs_by_rows : (lines : List (List ℕ)) (runs : List (List (List ℕ))) → runs_with (header_rows lines) runs ≡ map (with_header (file_header lines)) runs
runs_by_rows lines [] = refl
runs_by_rows lines (run ∷ runs) =
    let first = ap (λ put. before_key put run) (taken_rows (has_letter (header_of run)) lines) in
    let later = runs_by_rows lines runs in
    rw (first, later) refl

-- the tunes of lines, each with what it carries of the rows of their file header
pub whole_by_rows : (lines : List (List ℕ)) → runs_with (header_rows lines) (tune_runs lines) ≡ whole_runs lines
whole_by_rows lines = runs_by_rows lines (tune_runs lines)

-- TABLES
same_rule : (table : List Bool) (own : List (List ℕ)) (rule : CarryRule) → IsTableOf table own → IsByteRule rule
    → carries (in_table table) rule ≡ carries (has_letter own) rule
same_rule table own Never is byte = refl
same_rule table own Always is byte = refl
same_rule table own (Unless letter) is byte = ap not (is letter byte)

-- a table of the letters of a header tells the same of rows as the header
pub taken_by_table : (table : List Bool) (own : List (List ℕ)) (rows : List HeaderRow) → IsTableOf table own → AreByteRows rows
    → taken_lines (in_table table) rows ≡ taken_lines (has_letter own) rows
taken_by_table table own [] is each = refl
taken_by_table table own (row ∷ rows) is each = rw (same_rule table own row.rule is each.0, taken_by_table table own rows is each.1) refl
