-- How long the text of a query may be (this archive's profile).
use Rattle.std.specs.Prelude.{ℕ}

-- the bytes of a query, at most
abbrev pub longest_query : ℕ
longest_query = 4000000
