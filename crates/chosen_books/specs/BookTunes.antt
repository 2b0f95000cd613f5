-- The tunes of a book, each with the lines that it carries: those of the file header, and, where
-- this is asked for, lines that stand between the tunes before it.
use Rattle.std.specs.Prelude.{ℕ, ◌+◌, List, [], ◌∷◌, ◌++◌, length, Bool, false, ◌&&◌}
use Rattle.std.specs.Prelude.{if◌then◌else◌}
use Rattle.abc_fields.specs.Tunes.{is_tune_start, tune_run}
use Rattle.abc_fields.specs.FileHeaders.{file_header, with_header}
use Rattle.told_books.specs.Fates.{book_lines, engraves, fates_of}
use Rattle.told_books.specs.declared.fates.Fate.{Fate}
use Rattle.told_books.specs.declared.fates.Fate.TheVariants.{Dropped}

-- a tune: its place among the tunes of the book and the number of its `X:` line, both counted from
-- 1, its lines with those that it carries, and how many of these stood between tunes
pub record BookTune : Type 0 where
  pub place : ℕ
  pub line : ℕ
  pub lines : List (List ℕ)
  pub carried : ℕ

-- a line that is in no tune and no file header, and changes how a sheet is engraved: it is carried
-- where this is asked for
abbrev pub is_carried_between : Bool → Fate → List ℕ → Bool
is_carried_between carry (Dropped directive) line = carry && engraves line
is_carried_between carry _ line = false

-- how far a book is read: the number of the next line, how many tunes began before it, and the
-- lines between these that the tunes behind carry
pub record Passed : Type 0 where
  pub line : ℕ
  pub tunes : ℕ
  pub between : List (List ℕ)

-- behind a line that starts a tune
abbrev pub behind_start : Passed → Passed
behind_start at =
    record { line = at.line + 1; tunes = at.tunes + 1; between = at.between }

-- behind another line, which is carried or is not
abbrev pub behind_line : Bool → List ℕ → Passed → Passed
behind_line carried line at = record {
  line = at.line + 1;
  tunes = at.tunes;
  between = if carried then at.between ++ line ∷ [] else at.between;
}

-- the tune that starts here, before these lines: what stood between tunes is carried behind the
-- lines of the file header
abbrev pub tune_here : List (List ℕ) → Passed → List (List ℕ) → BookTune
tune_here header at lines = record {
  place = at.tunes + 1;
  line = at.line;
  lines = with_header (header ++ at.between) (tune_run lines);
  carried = length at.between;
}

-- the tunes of lines with these fates
abbrev pub book_tunes_from : Bool → List (List ℕ) → Passed → List Fate → List (List ℕ)
    → List BookTune
book_tunes_from carry header at [] lines = []
book_tunes_from carry header at (fate ∷ fates) [] = []
book_tunes_from carry header at (fate ∷ fates) (line ∷ lines) =
    if is_tune_start line
    then tune_here header at lines ∷ book_tunes_from carry header (behind_start at) fates lines
    else book_tunes_from carry header
    (behind_line (is_carried_between carry fate line) line at) fates lines

-- before the first line
abbrev pub nothing_passed : Passed
nothing_passed = record { line = 1; tunes = 0; between = [] }

-- the tunes of a book, in order
abbrev pub book_tunes : Bool → List ℕ → List BookTune
book_tunes carry book =
    let lines = book_lines book in
    book_tunes_from carry (file_header lines) nothing_passed (fates_of lines) lines
