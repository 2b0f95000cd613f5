-- What is told of the lines of a book that are not kept, and of those that are.
use Rattle.std.specs.Prelude.{◌≡◌, ℕ, ◌+◌, ◌<◌, List, [], ◌∷◌, length, slice_get, Bool, true}
use Rattle.std.specs.Prelude.{Some}
use Rattle.std.specs.List.{list_all}
use Rattle.abc_fields.specs.Fields.{header_of}
use Rattle.abc_fields.specs.Tunes.{is_tune_start, tune_runs}
use Rattle.abc_fields.specs.FileHeaders.{file_header, carried, has_letter}
use Rattle.abc_fields.specs.declared.carry_rules.CarryRule.TheVariants.{Never}
use Rattle.told_books.specs.Fates.{is_kept_of, is_carried, lines_told}
use Rattle.told_books.specs.declared.fates.Fate.{Fate}
use Rattle.told_books.specs.declared.fates.Fate.TheVariants.{Dropped}
use Rattle.told_books.specs.declared.dropped.DroppedLine.{DroppedLine}

-- DROPPED LINES
-- a line that is in nothing that is kept: its number, and its bytes
pub record DroppedRow : Type 0 where
  pub number : ℕ
  pub bytes : List ℕ
  pub directive : Bool

abbrev pub dropped_row : DroppedLine → DroppedRow
dropped_row line =
    record { number = line.number; bytes = line.text.now; directive = line.directive }

-- this line, where it is dropped, and then the later ones
abbrev pub dropped_or : ℕ → Fate → List ℕ → List DroppedRow → List DroppedRow
dropped_or number (Dropped directive) line later =
    record { number = number; bytes = line; directive = directive } ∷ later
dropped_or number _ line later = later

-- those of these lines that are dropped; the first line has this number
abbrev pub dropped_from : ℕ → List Fate → List (List ℕ) → List DroppedRow
dropped_from number [] lines = []
dropped_from number (fate ∷ fates) [] = []
dropped_from number (fate ∷ fates) (line ∷ lines) =
    dropped_or number fate line (dropped_from (number + 1) fates lines)

-- KEPT LINES
-- lines that are a line that starts a tune, and then the lines of this tune
pub record IsWholeTune (told run : List (List ℕ)) : Type 0 where
  pub start : List ℕ
  pub starts : is_tune_start start ≡ true
  pub whole : start ∷ run ≡ told

-- the lines told of each tune are that tune, and no line is told of another
pub record TellsTunes (fates : List Fate) (lines : List (List ℕ)) : Type 0 where
  pub each : (n : ℕ) (run : List (List ℕ)) → slice_get (tune_runs lines) n ≡ Some run
      → IsWholeTune (lines_told (is_kept_of (n + 1)) fates lines) run
  pub none_before : lines_told (is_kept_of 0) fates lines ≡ []
  pub none_after : (n : ℕ) → length (tune_runs lines) < n
      → lines_told (is_kept_of n) fates lines ≡ []

-- CARRIED LINES
-- whether the header of each of these tunes has a field of this letter
abbrev pub each_has : List (List (List ℕ)) → ℕ → Bool
each_has runs letter = list_all (λ run. has_letter (header_of run) letter) runs

-- the lines told as carried are those of the file header that some tune carries: where there is a
-- tune, those that one carries whose header has only the fields that all have
pub record TellsCarriedLines (fates : List Fate) (lines : List (List ℕ)) : Type 0 where
  pub some : 0 < length (tune_runs lines) → lines_told is_carried fates lines
      ≡ carried (each_has (tune_runs lines)) Never (file_header lines)
  pub none : tune_runs lines ≡ [] → lines_told is_carried fates lines ≡ []
