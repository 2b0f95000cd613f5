-- The file header of a book, and which of its lines each tune carries (ABC 2.1, 2.2.2; own profile
-- for what a file header is, and for each rule).
use Rattle.std.specs.Prelude.{ℕ, List, [], ◌∷◌, ◌++◌, codes, Bool, true, false, not, ◌&&◌, ◌||◌}
use Rattle.std.specs.Prelude.{◌==◌, if◌then◌else◌}
use Rattle.std.specs.List.{list_all, list_any}
use Rattle.abc_fields.specs.Bytes.{begins_with, is_one_of}
use Rattle.abc_fields.specs.LineKinds.{is_field_line, is_continuation, is_comment}
use Rattle.abc_fields.specs.Tunes.{is_empty_line, is_tune_start, is_key_line}
use Rattle.abc_fields.specs.Fields.{header_of}
use Rattle.abc_fields.specs.Values.{field_value}
use Rattle.abc_fields.specs.declared.carry_rules.CarryRule.{CarryRule}
use Rattle.abc_fields.specs.declared.carry_rules.CarryRule.TheVariants.{Never, Always, Unless}

-- THE FILE HEADER
-- the lines from the first on, up to an empty one
abbrev pub block_of : List (List ℕ) → List (List ℕ)
block_of [] = []
block_of (line ∷ lines) = if is_empty_line line then [] else line ∷ block_of lines

-- the first block: the lines that stand together after the empty lines at the front
abbrev pub first_block : List (List ℕ) → List (List ℕ)
first_block [] = []
first_block (line ∷ lines) =
    if is_empty_line line then first_block lines else line ∷ block_of lines

-- a line that may stand in a file header: a field, but for `X:`, a line that goes on with a field,
-- a comment or a directive
abbrev pub is_header_line : List ℕ → Bool
is_header_line line =
    not (is_tune_start line) && (is_field_line line || is_continuation line || is_comment line)

-- the first block, where each of its lines may stand in a file header
abbrev pub file_header : List (List ℕ) → List (List ℕ)
file_header lines = if list_all is_header_line (first_block lines) then first_block lines else []

-- WHICH TUNES CARRY A LINE
-- the letter of information fields
abbrev pub information : ℕ
information = 73

-- a directive: a comment that begins with two percent signs
abbrev pub is_directive : List ℕ → Bool
is_directive line = begins_with line (codes "%%")

-- an information field of this value: what it says of the file itself is of no tune
abbrev pub rule_of_information : List ℕ → CarryRule
rule_of_information value =
    if begins_with value (codes "abc-version") || begins_with value (codes "abc-charset") then Never
    else Always

-- a field line: user symbols and macros go into each tune; number, title and key into none; any
-- other field into the tunes whose own headers have no field of its letter
abbrev pub rule_of_field : List ℕ → CarryRule
rule_of_field [] = Never
rule_of_field (letter ∷ text) =
    if letter == information then rule_of_information (field_value (letter ∷ text))
    else if is_one_of (codes "Um") letter then Always
    else if is_one_of (codes "XTK") letter then Never
    else Unless letter

-- a line of a file header, where this is the rule of the nearest field line above it: a line that
-- goes on with a field goes with it, and a directive goes into each tune
abbrev pub rule_of : CarryRule → List ℕ → CarryRule
rule_of above line =
    if is_continuation line then above
    else if is_field_line line then rule_of_field line
    else if is_directive line then Always
    else Never

-- the rule of the nearest field line above the next line
abbrev pub rule_below : CarryRule → List ℕ → CarryRule
rule_below above line = if is_field_line line then rule_of_field line else above

-- THE LINES THAT A TUNE CARRIES
-- whether a header has a field of this letter
abbrev pub has_letter : List (List ℕ) → ℕ → Bool
has_letter own letter = list_any (λ line. begins_with line (letter ∷ codes ":")) own

-- whether a tune carries a line of this rule, where its own header has the fields of these letters
abbrev pub carries : (ℕ → Bool) → CarryRule → Bool
carries owns Never = false
carries owns Always = true
carries owns (Unless letter) = not (owns letter)

-- those of the lines of a file header that such a tune carries, in order
abbrev pub carried : (ℕ → Bool) → CarryRule → List (List ℕ) → List (List ℕ)
carried owns above [] = []
carried owns above (line ∷ lines) =
    if carries owns (rule_of above line) then line ∷ carried owns (rule_below above line) lines
    else carried owns (rule_below above line) lines

-- lines, put directly before the first that gives the key
abbrev pub before_key : List (List ℕ) → List (List ℕ) → List (List ℕ)
before_key put [] = []
before_key put (line ∷ lines) =
    if is_key_line line then put ++ (line ∷ lines) else line ∷ before_key put lines

-- the lines of a tune, with those that it carries of a file header; a `+:` line with no field line
-- above it goes into no tune
abbrev pub with_header : List (List ℕ) → List (List ℕ) → List (List ℕ)
with_header header run = before_key (carried (has_letter (header_of run)) Never header) run
