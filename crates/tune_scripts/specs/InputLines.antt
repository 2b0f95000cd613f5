-- The first line of an input.
use Rattle.std.specs.Prelude.{List, [], ◌∷◌, ℕ, Bool, true, false, ◌==◌, if◌then◌else◌}
use Rattle.abc_fields.specs.Bytes.{line_feed}

-- the bytes before the first line feed, or all
abbrev pub before_feed : List ℕ → List ℕ
before_feed [] = []
before_feed (b ∷ input) = if b == line_feed then [] else b ∷ before_feed input

-- the bytes after the first line feed, or none
abbrev pub after_feed : List ℕ → List ℕ
after_feed [] = []
after_feed (b ∷ input) = if b == line_feed then input else after_feed input

-- whether there is a line feed
abbrev pub has_feed : List ℕ → Bool
has_feed [] = false
has_feed (b ∷ input) = if b == line_feed then true else has_feed input
