-- Which lines of a tune are heard, in a reader's words: those after the key that lie in no part of
-- another kind, as typeset text (ABC 2.1, 3.3 and 4.20; own profile for `%%begin` with every word).
use Rattle.std.specs.Prelude.{◌≡◌, Bool, true, false, List, [], ◌∷◌, ◌++◌}
use Rattle.std.specs.List.{AllByRecursion, list_any}
use Rattle.abc_fields.specs.Lines.{Span as Line}
use Rattle.abc_fields.specs.LineKinds.{begins_part, ends_part_line}
use Rattle.abc_fields.specs.Tunes.{is_key_line}
use Rattle.abc_notes.specs.Events.{Event}
use Rattle.abc_notes.specs.Music.{body_line_events}

-- A line lies in a part where some line before it begins with `%%begin`, and no line between begins
-- with `%%end`.
pub record LiesInPart (before : List Line) : Type 0 where
  pub earlier : List Line
  pub begin : Line
  pub between : List Line
  pub whole : earlier ++ (begin ∷ between) ≡ before
  pub begins : begins_part begin.bytes ≡ true
  pub no_end : AllByRecursion (λ line. ends_part_line line.bytes ≡ false) between

-- whether a line with the key is among these
abbrev pub have_key : List Line → Bool
have_key lines = list_any (λ line. is_key_line line.bytes) lines

-- the events that a line gives, after the lines before it
pub record GivesEvents (before : List Line) (line : Line) (events : List Event) : Type 0 where
  pub header : have_key before ≡ false → events ≡ []
  pub hidden : LiesInPart before → events ≡ []
  pub heard : have_key before ≡ true → ¬ LiesInPart before
      → events ≡ body_line_events line.from line.bytes

-- the events that lines give, one line after another
abbrev pub AreGiven : List Line → List Line → List Event → Type 0
AreGiven before [] events = events ≡ []
AreGiven before (line ∷ lines) events =
    (own : List Event) × (later : List Event) × (own ++ later ≡ events)
    × GivesEvents before line own × AreGiven (before ++ line ∷ []) lines later
