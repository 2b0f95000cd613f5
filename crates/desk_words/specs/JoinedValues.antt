-- Options with their values. The parser takes a word that begins with `-` for an option, so an
-- option that asks for a value and the word behind it become one word.
use Rattle.std.specs.Prelude.{Bool, true, false, if◌then◌else◌, List, [], ◌∷◌, ◌++◌}
use Rattle.std.specs.Prelude.{Option, Some, None, codes}
use Rattle.std.specs.Str.{bytes_eq}
use Rattle.clap.specs.Words.{Text}
use Rattle.desk_words.specs.declared.arranging.WordKind.{WordKind}
use Rattle.desk_words.specs.declared.arranging.WordKind.TheVariants as word
use Rattle.desk_words.specs.Arranged.{kind_of_word}

-- `-f=FILE` or `--title=T`: what stands behind the first = (61) is the value, whatever it is
abbrev pub with_value : Text → Text → Text
with_value option value = option ++ 61 ∷ value

-- the value is the next word
abbrev pub asks_value : WordKind → Bool
asks_value word.TopAsking = true
asks_value word.Asking = true
asks_value _ = false

-- words, behind an option that waits for its value or behind none; what stands from `--` on is no
-- option, and an option that lacks its value stands alone
abbrev pub joined_behind : Option Text → List Text → List Text
joined_behind None [] = []
joined_behind (Some option) [] = option ∷ []
joined_behind (Some option) (word ∷ words) = with_value option word ∷ joined_behind None words
joined_behind None (word ∷ words) = if bytes_eq word (codes "--") then word ∷ words
    else if asks_value (kind_of_word word) then joined_behind (Some word) words
    else word ∷ joined_behind None words

-- the words of a call; the first is the program's name
abbrev pub joined_values : List Text → List Text
joined_values [] = []
joined_values (name ∷ words) = name ∷ joined_behind None words
