-- Bounds that readers of notes keep, so that indices and pitches fit their types.
use Rattle.std.specs.Prelude.{◌≡◌, ℕ, ◌+◌, ◌≤◌, List, [], ◌∷◌, length, ⊤, ℤ, pos, ◌-ℤ◌}
use Rattle.abc_fields.specs.Limits.{longest_book}
use Rattle.abc_fields.specs.Lines.{Span as Line}
use Rattle.abc_items.specs.declared.kinds.Kind.TheVariants as kind
use Rattle.abc_items.specs.ItemSpans.{ItemSpan}

-- an item of a text that begins at this index of a tune; a chord has its two brackets
pub record IsShort (base : ℕ) (span : ItemSpan) : Type 0 where
  pub ordered : span.from + length span.bytes ≡ span.to
  pub short : base + span.to ≤ longest_book
  pub brackets : span.kind ≡ kind.Chord → 2 ≤ length span.bytes

abbrev pub AreShort : ℕ → List ItemSpan → Type 0
AreShort base [] = ⊤
AreShort base (span ∷ spans) = IsShort base span × AreShort base spans

-- lines of a tune
abbrev pub LinesAreShort : List Line → Type 0
LinesAreShort [] = ⊤
LinesAreShort (line ∷ lines) = (line.from + length line.bytes ≤ longest_book) × LinesAreShort lines

-- the octaves of notes: each mark adds or takes one
abbrev pub lowest_octave : ℤ
lowest_octave = pos 0 -ℤ pos longest_book

abbrev pub highest_octave : ℤ
highest_octave = pos longest_book
