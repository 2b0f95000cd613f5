-- Words that are joined in turn, as far as a loop has come.
use Rattle.std.specs.Prelude.{List, ◌++◌, Some, None, map, string_bytes}
use Rattle.clap.specs.Words.{Text}
use Rattle.desk_words.specs.declared.joining.Coming.{Coming}
use Rattle.desk_words.specs.declared.joining.Coming.TheVariants as coming
use Rattle.desk_words.specs.declared.joining.Joined.{Joined}
use Rattle.desk_words.specs.JoinedValues.{joined_behind}

-- what becomes of the words that are still to come
abbrev pub behind : Coming → List Text → List Text
behind coming.Any words = joined_behind None words
behind (coming.Value option) words = joined_behind (Some option.now) words
behind coming.Words words = words

-- all words, where these are to come
abbrev pub whole : Joined → List Text → List Text
whole joined words = map string_bytes joined.words.items ++ behind joined.coming words
