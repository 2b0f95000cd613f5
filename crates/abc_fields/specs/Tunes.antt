-- Which lines of a book are a tune, and what the text of a tune is (ABC 2.1, 2.2.1; own profile
-- where the standard is silent).
use Rattle.std.specs.Prelude.{◌≡◌, ℕ, ◌≤◌, List, length, [], ◌∷◌, ◌++◌, codes, Bool, true, false}
use Rattle.std.specs.Prelude.{◌||◌, if◌then◌else◌}
use Rattle.std.specs.List.{AllByRecursion}
use Rattle.abc_fields.specs.Bytes.{line_feed, is_all_blank, begins_with}
use Rattle.abc_fields.specs.Lines.{has_no_ending}

-- an empty line
abbrev pub is_empty_line : List ℕ → Bool
is_empty_line line = is_all_blank line

-- a line that starts a tune (the reference number field; what follows the colon is not used)
abbrev pub is_tune_start : List ℕ → Bool
is_tune_start line = begins_with line (codes "X:")

-- a line that gives the key, the first of which ends the header
abbrev pub is_key_line : List ℕ → Bool
is_key_line line = begins_with line (codes "K:")

-- a tune ends before an empty line and before the next tune
abbrev pub ends_tune : List ℕ → Bool
ends_tune line = is_empty_line line || is_tune_start line

-- the longest run of lines, from the first on, in which no tune ends
abbrev pub tune_run : List (List ℕ) → List (List ℕ)
tune_run [] = []
tune_run (line ∷ lines) = if ends_tune line then [] else line ∷ tune_run lines

-- for each line that starts a tune, the lines of that tune after it
abbrev pub tune_runs : List (List ℕ) → List (List (List ℕ))
tune_runs [] = []
tune_runs (line ∷ lines) =
    if is_tune_start line then tune_run lines ∷ tune_runs lines else tune_runs lines

-- lines, each ended by a line feed
abbrev pub joined : List (List ℕ) → List ℕ
joined [] = []
joined (line ∷ lines) = (line ++ line_feed ∷ []) ++ joined lines

-- whether one of the lines gives the key
abbrev pub has_key : List (List ℕ) → Bool
has_key [] = false
has_key (line ∷ lines) = is_key_line line || has_key lines

-- TUNE TEXTS
-- a line that may stand in the text of a tune
pub record IsTuneLine (line : List ℕ) : Type 0 where
  pub plain : has_no_ending line ≡ true
  pub inside : ends_tune line ≡ false

-- lines of a tune, each ended by a line feed, and whether one of them gives the key
pub record IsOpenText (text : List ℕ) (keyed : Bool) : Type 0 where
  pub lines : List (List ℕ)
  pub whole : joined lines ≡ text
  pub each : AllByRecursion IsTuneLine lines
  pub key : has_key lines ≡ keyed

-- one or more lines, each ended by a line feed, with no carriage return, no empty line and no `X:`
-- line among them, and a `K:` line
abbrev pub IsTuneText : List ℕ → Type 0
IsTuneText text = IsOpenText text true

-- a tune text of at most so many bytes
pub record IsTextWithin (longest : ℕ) (text : List ℕ) : Type 0 where
  pub tune_text : IsTuneText text
  pub fits : length text ≤ longest
