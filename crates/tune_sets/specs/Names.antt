-- The names of sets, and their order (this archive's profile).
use Rattle.std.specs.Prelude.{ℕ, List, length, Bool, ◌&&◌, ◌||◌, ◌==◌, nat_lt, nat_le}
use Rattle.std.specs.List.{list_all}
use Rattle.std.specs.Char.{is_ascii_alphabetic, is_ascii_digit}
use Rattle.std.specs.Cmp.Lexicographic.{slice_cmp}
use Rattle.std.specs.Ordering.{nat_cmp, is_lt}
use Rattle.tune_sets.specs.Limits.{longest_name}

-- a hyphen and an underscore
abbrev pub hyphen : ℕ
hyphen = 45

abbrev pub underscore : ℕ
underscore = 95

-- an ASCII letter or digit, a hyphen or an underscore
abbrev pub is_name_byte : ℕ → Bool
is_name_byte byte =
    is_ascii_alphabetic byte || is_ascii_digit byte || byte == hyphen || byte == underscore

-- a name that a set may have
abbrev pub is_good_name : List ℕ → Bool
is_good_name name =
    nat_lt 0 (length name) && nat_le (length name) longest_name && list_all is_name_byte name

-- whether a name stands before another, in the order of their bytes
abbrev pub is_before : List ℕ → List ℕ → Bool
is_before name other = is_lt (slice_cmp nat_cmp name other)
