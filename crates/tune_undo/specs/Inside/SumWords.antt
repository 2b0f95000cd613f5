-- How the digits of a sum are read.
use Rattle.std.specs.Prelude.{ℕ, List, nat_lt, Bool, ◌&&◌, if◌then◌else◌, Option, None, Some}
use Rattle.std.specs.Prelude.{Result, Ok, Err}
use Rattle.std.specs.List.{list_all}
use Rattle.std.specs.Str.{bytes_eq}
use Rattle.hex.specs.Hex.{encode_lower, decode_sized}
use Rattle.hex.specs.declared.error.FromHexError.{FromHexError}

abbrev pub is_byte : ℕ → Bool
is_byte n = nat_lt n 256

-- bytes that these digits decode to, if they are those that these bytes encode to
abbrev pub sum_from : List ℕ → Result (List ℕ) FromHexError → Option (List ℕ)
sum_from word (Err fault) = None
sum_from word (Ok bytes) =
    if bytes_eq (encode_lower bytes) word && list_all is_byte bytes then Some bytes else None

abbrev pub sum_of : List ℕ → Option (List ℕ)
sum_of word = sum_from word (decode_sized word 32)
