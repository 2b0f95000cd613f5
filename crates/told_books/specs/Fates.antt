-- What becomes of each line of a book that is imported.
use Rattle.std.specs.Prelude.{ℕ, ◌+◌, List, [], ◌∷◌, codes, Bool, true, false, ◌||◌, ◌==◌}
use Rattle.std.specs.Prelude.{if◌then◌else◌}
use Rattle.std.specs.List.{list_all, list_any}
use Rattle.abc_fields.specs.Bytes.{begins_with}
use Rattle.abc_fields.specs.Lines.{lines_of}
use Rattle.abc_fields.specs.Books.{without_mark}
use Rattle.abc_fields.specs.Fields.{header_of}
use Rattle.abc_fields.specs.Tunes.{is_empty_line, is_tune_start, tune_runs}
use Rattle.abc_fields.specs.FileHeaders.{first_block, is_header_line, is_directive}
use Rattle.abc_fields.specs.FileHeaders.{rule_of, rule_below, carries, has_letter}
use Rattle.abc_fields.specs.declared.carry_rules.CarryRule.{CarryRule}
use Rattle.abc_fields.specs.declared.carry_rules.CarryRule.TheVariants.{Never}
use Rattle.told_books.specs.declared.fates.Fate.{Fate}
use Rattle.told_books.specs.declared.fates.Fate.TheVariants.{Kept, Carried, Blank, Version, Dropped}
use Rattle.told_books.specs.declared.fates.Stand.{Stand}
use Rattle.told_books.specs.declared.fates.Stand.TheVariants.{Front, Header, Tune, Outside}

-- the lines of a book, which begin behind the byte order mark
abbrev pub book_lines : List ℕ → List (List ℕ)
book_lines book = lines_of (without_mark book)

-- KINDS OF LINES
-- a first line that tells the version of the standard: a comment, which no tune carries
abbrev pub is_version : List ℕ → Bool
is_version line = begins_with line (codes "%abc")

-- a line that changes how a sheet is engraved: a directive, a user symbol or a macro
abbrev pub engraves : List ℕ → Bool
engraves line =
    is_directive line || (begins_with line (codes "U:") || begins_with line (codes "m:"))

-- WHERE A LINE STANDS
-- the place of the first line: the front of a file header, where the first block is one
abbrev pub first_stand : List (List ℕ) → Stand
first_stand lines = if list_all is_header_line (first_block lines) then Front else Outside 0

-- how many tunes have begun before a line that stands there
abbrev pub tunes_begun : Stand → ℕ
tunes_begun Front = 0
tunes_begun (Header above) = 0
tunes_begun (Tune number) = number
tunes_begun (Outside tunes) = tunes

-- an empty line ends a file header and a tune
abbrev pub after_empty : Stand → Stand
after_empty Front = Front
after_empty (Header above) = Outside 0
after_empty (Tune number) = Outside number
after_empty (Outside tunes) = Outside tunes

-- a line that is not empty and starts no tune
abbrev pub after_other : Stand → List ℕ → Stand
after_other Front line = Header (rule_below Never line)
after_other (Header above) line = Header (rule_below above line)
after_other (Tune number) line = Tune number
after_other (Outside tunes) line = Outside tunes

-- where the line after this one stands
abbrev pub stand_after : Stand → List ℕ → Stand
stand_after stand line =
    if is_empty_line line then after_empty stand
    else if is_tune_start line then Tune (tunes_begun stand + 1)
    else after_other stand line

-- FATES
-- a line of a file header of this rule, where `carry` says whether some tune carries a line
abbrev pub header_fate : (CarryRule → Bool) → CarryRule → List ℕ → Fate
header_fate carry rule line = if carry rule then Carried else Dropped (engraves line)

-- a line that is not empty and starts no tune
abbrev pub other_fate : (CarryRule → Bool) → Stand → List ℕ → Fate
other_fate carry Front line = header_fate carry (rule_of Never line) line
other_fate carry (Header above) line = header_fate carry (rule_of above line) line
other_fate carry (Tune number) line = Kept number
other_fate carry (Outside tunes) line = Dropped (engraves line)

-- a line that stands there
abbrev pub fate_at : (CarryRule → Bool) → Stand → List ℕ → Fate
fate_at carry stand line =
    if is_empty_line line then Blank
    else if is_tune_start line then Kept (tunes_begun stand + 1)
    else other_fate carry stand line

-- lines of which the first stands there
abbrev pub fates_from : (CarryRule → Bool) → Stand → List (List ℕ) → List Fate
fates_from carry stand [] = []
fates_from carry stand (line ∷ lines) =
    fate_at carry stand line ∷ fates_from carry (stand_after stand line) lines

-- the first line may tell the version
abbrev pub with_version : List (List ℕ) → List Fate → List Fate
with_version [] fates = fates
with_version (line ∷ lines) [] = []
with_version (line ∷ lines) (fate ∷ fates) = (if is_version line then Version else fate) ∷ fates

-- whether some tune of these carries a line of this rule
abbrev pub some_carries : List (List (List ℕ)) → CarryRule → Bool
some_carries runs rule = list_any (λ run. carries (has_letter (header_of run)) rule) runs

-- what becomes of the lines of a book, one fate for each
abbrev pub fates_of : List (List ℕ) → List Fate
fates_of lines =
    with_version lines (fates_from (some_carries (tune_runs lines)) (first_stand lines) lines)

-- TESTS OF FATES
abbrev pub is_kept_of : ℕ → Fate → Bool
is_kept_of tune (Kept number) = number == tune
is_kept_of tune _ = false

abbrev pub is_carried : Fate → Bool
is_carried Carried = true
is_carried _ = false

abbrev pub is_dropped : Fate → Bool
is_dropped (Dropped directive) = true
is_dropped _ = false

-- the lines with a fate that passes a test
abbrev pub lines_told : (Fate → Bool) → List Fate → List (List ℕ) → List (List ℕ)
lines_told test [] lines = []
lines_told test (fate ∷ fates) [] = []
lines_told test (fate ∷ fates) (line ∷ lines) =
    if test fate then line ∷ lines_told test fates lines else lines_told test fates lines
