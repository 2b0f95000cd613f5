-- The limits of scripts (this archive's script language).
use Rattle.std.specs.Prelude.{ℕ}

-- the bytes of a line before its line feed
abbrev pub longest_line : ℕ
longest_line = 4096

-- the digits of a number
abbrev pub most_digits : ℕ
most_digits = 9

-- the lines of a script
abbrev pub most_lines : ℕ
most_lines = 1000000
