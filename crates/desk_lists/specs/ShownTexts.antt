-- Bytes as text.
use Rattle.std.specs.Prelude.{ℕ, zero, suc, ◌+◌, List, ◌++◌, length, take, drop, slice_index}
use Rattle.std.specs.Prelude.{◌==◌, if◌then◌else◌}
use Rattle.std.specs.Char.{encode_utf8}
use Rattle.std.specs.Str.Lossy.{utf8_valid_len}

-- the UTF-8 of the character of Latin-1 at this place
abbrev pub latin_at : ℕ → List ℕ → List ℕ
latin_at place bytes = encode_utf8 (slice_index bytes place)

-- `text_bytes`, for at most so many bytes that are no part of UTF-8
abbrev pub text_within : ℕ → List ℕ → List ℕ
text_within zero bytes = bytes
text_within (suc more) bytes =
    if utf8_valid_len bytes == length bytes then bytes
    else take (utf8_valid_len bytes) bytes ++ (latin_at (utf8_valid_len bytes) bytes
    ++ text_within more (drop (utf8_valid_len bytes + 1) bytes))

-- the longest front that is UTF-8, then the next byte as a character of Latin-1, and so on
unfoldable pub text_bytes : List ℕ → List ℕ
text_bytes bytes = text_within (length bytes) bytes
