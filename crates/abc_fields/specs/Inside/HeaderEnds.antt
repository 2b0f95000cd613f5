-- Where the header of a tune ends, as a reader of its lines finds it.
use Rattle.std.specs.Prelude.{◌≡◌, ℕ, List, [], ◌∷◌, ◌++◌, length, Bool, true, false, Option, Some}
use Rattle.std.specs.Prelude.{None, ⊤}
use Rattle.std.specs.Prelude.{if◌then◌else◌}
use Rattle.std.specs.List.{list_any}
use Rattle.abc_fields.specs.Lines.{Span, spans_of}
use Rattle.abc_fields.specs.LineKinds.{in_part_after, part_open_after}
use Rattle.abc_fields.specs.Tunes.{is_key_line, has_key, ends_tune, joined}
use Rattle.abc_fields.specs.Inside.LinesLeft.{AreRead}
use Rattle.abc_fields.specs.declared.key_place.KeyPlace.{KeyPlace}

-- where the first of these lines that gives the key stands, where the first of all lies within a
-- part or does not
abbrev pub key_place : Bool → List Span → Option KeyPlace
key_place inside [] = None
key_place inside (line ∷ lines) =
    if is_key_line line.bytes then Some (record { from = line.from; in_part = inside })
    else key_place (in_part_after inside line.bytes) lines

-- what is known of a text is where its key stands, or nothing
abbrev pub IsKnown : List ℕ → Option KeyPlace → Type 0
IsKnown text None = ⊤
IsKnown text (Some place) = key_place false (spans_of text) ≡ Some place

-- whether a tune ends before one of these lines
abbrev pub has_end : List (List ℕ) → Bool
has_end lines = list_any ends_tune lines

-- these lines stand before the key of a tune, which stands here
pub record IsBefore (before : List (List ℕ)) (place : KeyPlace) : Type 0 where
  pub none : has_key before ≡ false
  pub from : place.from ≡ length (joined before)
  pub part : place.in_part ≡ part_open_after before

-- a reader of lines of a tune went over the first that gives the key, and maybe further, and that
-- line stands here in the text of those that it went over
pub record IsKeyRead (old new : List (List ℕ)) (place : KeyPlace) : Type 0 where
  pub before : List (List ℕ)
  pub line : List ℕ
  pub later : List (List ℕ)
  pub read : AreRead old (before ++ line ∷ later) new
  pub above : IsBefore before place
  pub key : is_key_line line ≡ true
