-- Sorted words, by their bytes.
use Rattle.std.specs.Prelude.{List, map, option_map}
use Rattle.std.specs.Borrow.{Bor}
use Rattle.clap.specs.Words.{Text}
use Rattle.desk_words.specs.declared.arranging.Sorted.{Sorted}
use Rattle.desk_words.specs.Arranged.{SortedWords}

-- the texts behind references
abbrev pub texts_behind : List (Bor Text) → List Text
texts_behind = map (λ word. word.now)

abbrev pub sorted_by : Sorted → SortedWords
sorted_by sorted = record {
  top = texts_behind sorted.top.items;
  command = option_map (λ word. word.now) sorted.command;
  help = texts_behind sorted.help.items;
  words = texts_behind sorted.words.items;
  options = texts_behind sorted.options.items;
  behind = texts_behind sorted.behind.items;
  next = sorted.next;
}
