-- The order in which the parser is given the words. Options may stand anywhere before `--`; the
-- parser wants those of the program before the command, and those of the command behind it. An
-- option that asks for one value has it in its own word (JoinedValues), unless it stands last.
use Rattle.std.specs.Prelude.{if◌then◌else◌, List, [], ◌∷◌, ◌++◌}
use Rattle.std.specs.Prelude.{Option, Some, None, codes, fold, drop, nat_eq, option_to_list}
use Rattle.std.specs.List.{starts_with}
use Rattle.std.specs.Str.{bytes_eq}
use Rattle.clap.specs.Words.{Text}
use Rattle.desk_words.specs.declared.arranging.WordKind.{WordKind}
use Rattle.desk_words.specs.declared.arranging.WordKind.TheVariants as word
use Rattle.desk_words.specs.declared.arranging.Next.{Next}
use Rattle.desk_words.specs.declared.arranging.Next.TheVariants as next
use Rattle.desk_words.specs.Given.{is_digits}

-- a word by what it begins with
abbrev pub kind_by_start : Text → WordKind
kind_by_start text = if starts_with nat_eq text (codes "-f") then word.Top
    else if starts_with nat_eq text (codes "--wait=") then word.Top
    else if starts_with nat_eq text (codes "-") then word.Option
    else word.Plain

-- a word that is no option of the program
abbrev pub kind_of_option : Text → WordKind
kind_of_option text = if bytes_eq text (codes "--title") then word.Asking
    else if bytes_eq text (codes "--rhythm") then word.Asking
    else if bytes_eq text (codes "--key") then word.Asking
    else if bytes_eq text (codes "--notes") then word.Asking
    else if bytes_eq text (codes "--in") then word.Asking
    else if bytes_eq text (codes "--revision") then word.Asking
    else if bytes_eq text (codes "--to") then word.Asking
    else if bytes_eq text (codes "--keep") then word.Asking
    else if bytes_eq text (codes "--tune") then word.AskingNumbers
    else if bytes_eq text (codes "-") then word.Plain
    else kind_by_start text

-- what a word is by itself
abbrev pub kind_of_word : Text → WordKind
kind_of_word text = if bytes_eq text (codes "--") then word.Dashes
    else if bytes_eq text (codes "-f") then word.TopAsking
    else if bytes_eq text (codes "--wait") then word.TopAsking
    else if bytes_eq text (codes "-V") then word.Top
    else if bytes_eq text (codes "--version") then word.Top
    else if bytes_eq text (codes "-h") then word.Help
    else if bytes_eq text (codes "--help") then word.Help
    else kind_of_option text

-- the words so far, by what they are: the program's options with their values, the command, words
-- that ask for help, other words, the command's options with their values, and what stands from
-- `--` on; and what the next word may be
pub record SortedWords : Type 0 where
  pub top : List Text
  pub command : Option Text
  pub help : List Text
  pub words : List Text
  pub options : List Text
  pub behind : List Text
  pub next : Next

abbrev pub nothing_sorted : SortedWords
nothing_sorted = record {
  top = [];
  command = None;
  help = [];
  words = [];
  options = [];
  behind = [];
  next = next.Any;
}

abbrev pub put_top : Next → SortedWords → Text → SortedWords
put_top then_next sorted text =
    record sorted { top = sorted.top ++ text ∷ []; next = then_next }

abbrev pub put_option : Next → SortedWords → Text → SortedWords
put_option then_next sorted text =
    record sorted { options = sorted.options ++ text ∷ []; next = then_next }

abbrev pub put_help : SortedWords → Text → SortedWords
put_help sorted text = record sorted { help = sorted.help ++ text ∷ []; next = next.Any }

abbrev pub put_dashes : SortedWords → Text → SortedWords
put_dashes sorted text =
    record sorted { behind = sorted.behind ++ text ∷ []; next = next.Words }

-- the first word that is no option is the command
abbrev pub put_plain : Option Text → SortedWords → Text → SortedWords
put_plain None sorted text = record sorted { command = Some text; next = next.Any }
put_plain (Some command) sorted text =
    record sorted { words = sorted.words ++ text ∷ []; next = next.Any }

abbrev pub put_behind : Option Text → SortedWords → Text → SortedWords
put_behind None sorted text = record sorted { command = Some text }
put_behind (Some command) sorted text = record sorted { behind = sorted.behind ++ text ∷ [] }

abbrev pub put_by_kind : WordKind → SortedWords → Text → SortedWords
put_by_kind word.Dashes sorted text = put_dashes sorted text
put_by_kind word.TopAsking sorted text = put_top next.TopValue sorted text
put_by_kind word.Top sorted text = put_top next.Any sorted text
put_by_kind word.Help sorted text = put_help sorted text
put_by_kind word.Asking sorted text = put_option next.Any sorted text
put_by_kind word.AskingNumbers sorted text = put_option next.Numbers sorted text
put_by_kind word.Option sorted text = put_option next.Any sorted text
put_by_kind word.Plain sorted text = put_plain sorted.command sorted text

abbrev pub put_any : SortedWords → Text → SortedWords
put_any sorted text = put_by_kind (kind_of_word text) sorted text

-- the numbers of --tune end with the first word that is none
abbrev pub put_number : SortedWords → Text → SortedWords
put_number sorted text =
    if is_digits text then put_option next.Numbers sorted text else put_any sorted text

-- by what may come
abbrev pub put_next : Next → SortedWords → Text → SortedWords
put_next next.TopValue sorted text = put_top next.Any sorted text
put_next next.Words sorted text = put_behind sorted.command sorted text
put_next next.Numbers sorted text = put_number sorted text
put_next next.Any sorted text = put_any sorted text

abbrev pub put_sorted : SortedWords → Text → SortedWords
put_sorted sorted text = put_next sorted.next sorted text

abbrev pub sorted_in : List Text → SortedWords
sorted_in words = fold put_sorted nothing_sorted words

-- the command, and what goes with it
abbrev pub command_part : SortedWords → List Text
command_part sorted = option_to_list sorted.command
    ++ (sorted.help ++ (sorted.words ++ (sorted.options ++ sorted.behind)))

-- an option of the program that lacks its value stands last, so that no command becomes its value
abbrev pub after_top : Next → SortedWords → List Text
after_top next.TopValue sorted = []
after_top _ sorted = command_part sorted

abbrev pub lined_up : SortedWords → List Text
lined_up sorted = codes "tunes-book" ∷ sorted.top ++ after_top sorted.next sorted

-- the words as the parser is given them; the first is the program's name
abbrev pub arranged : List Text → List Text
arranged words = lined_up (sorted_in (drop 1 words))
