-- The bytes by which an article at an end of a title is told.
use Rattle.std.specs.Prelude.{ℕ, List, [], ◌∷◌, codes, Bool, false, ◌==◌, ◌&&◌, ◌||◌}
use Rattle.std.specs.Char.{to_ascii_lowercase}
use Rattle.abc_fields.specs.Bytes.{is_blank, is_one_of, begins}

-- this word in small letters begins the text, in any capitals, and a blank follows it
abbrev pub begins_word : List ℕ → List ℕ → Bool
begins_word [] text = begins is_blank text
begins_word (letter ∷ word) [] = false
begins_word (letter ∷ word) (byte ∷ text) =
    to_ascii_lowercase byte == letter && begins_word word text

-- the last letter of an article in any capitals, or a blank, which may follow one
abbrev pub ends_article : ℕ → Bool
ends_article byte = is_blank byte || is_one_of (codes "AaEeNn") byte
