-- The bytes that the rules on text name, and tests of any bytes.
use Rattle.std.specs.Prelude.{ℕ, List, [], ◌∷◌, Bool, false, ◌==◌, ◌||◌, nat_eq}
use Rattle.std.specs.List.{starts_with, list_all, list_any}

-- BYTES BY NAME
abbrev pub tab : ℕ
tab = 9

abbrev pub line_feed : ℕ
line_feed = 10

abbrev pub carriage_return : ℕ
carriage_return = 13

abbrev pub space : ℕ
space = 32

abbrev pub percent : ℕ
percent = 37

abbrev pub colon : ℕ
colon = 58

abbrev pub backslash : ℕ
backslash = 92

-- EF BB BF, the byte order mark of UTF-8
abbrev pub byte_order_mark : List ℕ
byte_order_mark = 0xEF ∷ 0xBB ∷ 0xBF ∷ []

-- TESTS
-- a space or a tab: no other byte is blank (own profile)
abbrev pub is_blank : ℕ → Bool
is_blank byte = byte == space || byte == tab

-- whether a byte is one of these
abbrev pub is_one_of : List ℕ → ℕ → Bool
is_one_of bytes byte = list_any (λ b. byte == b) bytes

-- spaces and tabs alone, or nothing
abbrev pub is_all_blank : List ℕ → Bool
is_all_blank text = list_all is_blank text

-- whether a text begins with these bytes
abbrev pub begins_with : List ℕ → List ℕ → Bool
begins_with text front = starts_with nat_eq text front

-- whether the first byte of a text passes a test, if there is one
abbrev pub begins : (ℕ → Bool) → List ℕ → Bool
begins test [] = false
begins test (byte ∷ text) = test byte
