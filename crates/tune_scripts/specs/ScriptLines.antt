-- What a script line asks for.
use Rattle.std.specs.Prelude.{ℕ, List, [], ◌∷◌, length, codes, ◌&&◌, nat_lt, nat_le, ◌+◌, ◌-◌, ◌*◌}
use Rattle.std.specs.Prelude.{Bool, true, false, if◌then◌else◌, Option, None, Some, slice_index}
use Rattle.std.specs.List.{list_all}
use Rattle.std.specs.Char.{is_ascii_digit}
use Rattle.std.specs.Str.{bytes_eq}
use Rattle.abc_fields.specs.Words.{words_of, trimmed}
use Rattle.tune_titles.specs.Articles.{first_word, from_blank}
use Rattle.tune_queries.specs.declared.queries.Query.{Query}
use Rattle.tune_queries.specs.declared.queries.Query.TheVariants as query
use Rattle.tune_store.specs.declared.command.Command.{Command}
use Rattle.tune_store.specs.declared.command.Command.TheVariants as of
use Rattle.tune_scripts.specs.declared.script_lines.ScriptLine.{ScriptLine}
use Rattle.tune_scripts.specs.declared.script_lines.ScriptLine.TheVariants.{Blank, Bad, Whole, Book}
use Rattle.tune_scripts.specs.declared.script_lines.BookUse.{BookUse}
use Rattle.tune_scripts.specs.declared.script_lines.BookUse.TheVariants as book
use Rattle.tune_scripts.specs.declared.script_lines.QueryKind.{QueryKind}
use Rattle.tune_scripts.specs.declared.script_lines.QueryKind.TheVariants as kind
use Rattle.tune_scripts.specs.Limits.{most_digits}

-- the digit 0
abbrev pub zero_digit : ℕ
zero_digit = slice_index (codes "0") 0

-- the number that more digits make of this one
abbrev pub value_from : ℕ → List ℕ → ℕ
value_from value [] = value
value_from value (digit ∷ digits) = value_from (value * 10 + (digit - zero_digit)) digits

-- a number: decimal digits, of which the first may be zeros
abbrev pub number_of : List ℕ → Option ℕ
number_of word =
    if nat_lt 0 (length word) && nat_le (length word) most_digits && list_all is_ascii_digit word
    then Some (value_from 0 word) else None

-- the command over a book of these bytes
abbrev pub command_of : BookUse → List ℕ → Command
command_of book.Import bytes = of.Import bytes
command_of (book.Replace number revision) bytes = of.Replace number revision bytes

-- COMMANDS BY THEIR WORDS
-- a command of one word: `export`, `titles`, `sets`
abbrev pub meaning_of_name : List ℕ → ScriptLine
meaning_of_name name =
    if bytes_eq name (codes "export") then Whole of.ExportAll
    else if bytes_eq name (codes "titles") then Whole of.Titles
    else if bytes_eq name (codes "sets") then Whole of.Sets
    else if bytes_eq name (codes "upgrade") then Whole of.Upgrade
    else Bad

-- a command of a word and a number: `import LENGTH`, `show NUMBER`, `delete NUMBER`
abbrev pub meaning_of_number : List ℕ → Option ℕ → ScriptLine
meaning_of_number name None = Bad
meaning_of_number name (Some number) =
    if bytes_eq name (codes "import") then Book book.Import number
    else if bytes_eq name (codes "show") then Whole (of.Show number)
    else if bytes_eq name (codes "delete") then Whole (of.Delete number)
    else Bad

-- a command of two words: of a word and a number, or `set-new NAME`, `set-drop NAME`,
-- `set-show NAME`, `export-set NAME`, where any word is a name for the store to judge
abbrev pub meaning_of_two : List ℕ → List ℕ → ScriptLine
meaning_of_two name word =
    if bytes_eq name (codes "set-new") then Whole (of.SetNew word)
    else if bytes_eq name (codes "set-drop") then Whole (of.SetDrop word)
    else if bytes_eq name (codes "set-show") then Whole (of.SetShow word)
    else if bytes_eq name (codes "export-set") then Whole (of.ExportSet word)
    else meaning_of_number name (number_of word)

-- `renumber NUMBER TO`
abbrev pub renumber_of : Option ℕ → Option ℕ → ScriptLine
renumber_of (Some number) (Some to) = Whole (of.Renumber number to)
renumber_of (Some number) None = Bad
renumber_of None to = Bad

-- `set-add NAME NUMBER`
abbrev pub set_add_of : List ℕ → Option ℕ → ScriptLine
set_add_of name (Some number) = Whole (of.SetAdd name number)
set_add_of name None = Bad

-- `set-cut NAME PLACE`
abbrev pub set_cut_of : List ℕ → Option ℕ → ScriptLine
set_cut_of name (Some place) = Whole (of.SetCut name place)
set_cut_of name None = Bad

-- a command of three words
abbrev pub meaning_of_three : List ℕ → List ℕ → List ℕ → ScriptLine
meaning_of_three name first second =
    if bytes_eq name (codes "renumber") then renumber_of (number_of first) (number_of second)
    else if bytes_eq name (codes "set-add") then set_add_of first (number_of second)
    else if bytes_eq name (codes "set-cut") then set_cut_of first (number_of second)
    else Bad

-- `replace NUMBER REVISION LENGTH`
abbrev pub replace_of : Option ℕ → Option ℕ → Option ℕ → ScriptLine
replace_of (Some number) (Some revision) (Some length) = Book (book.Replace number revision) length
replace_of (Some number) (Some revision) None = Bad
replace_of (Some number) None length = Bad
replace_of None revision length = Bad

-- what the words of a line ask for; command words are in small letters
abbrev pub meaning_of : List (List ℕ) → ScriptLine
meaning_of [] = Blank
meaning_of (name ∷ []) = meaning_of_name name
meaning_of (name ∷ word ∷ []) = meaning_of_two name word
meaning_of (name ∷ first ∷ second ∷ []) = meaning_of_three name first second
meaning_of (name ∷ number ∷ revision ∷ length ∷ []) =
    if bytes_eq name (codes "replace")
    then replace_of (number_of number) (number_of revision) (number_of length) else Bad
meaning_of (name ∷ number ∷ revision ∷ length ∷ more ∷ rest) = Bad

-- FIND
-- the first word of a line, up to a space, a tab or the line's end
abbrev pub word_of : List ℕ → List ℕ
word_of line = first_word (trimmed line)

-- the line after its first word, without spaces and tabs at its ends
abbrev pub rest_of : List ℕ → List ℕ
rest_of line = trimmed (from_blank (trimmed line))

-- what a query is for, by its word
abbrev pub query_kind : List ℕ → Option QueryKind
query_kind word =
    if bytes_eq word (codes "title") then Some kind.Title
    else if bytes_eq word (codes "rhythm") then Some kind.Rhythm
    else if bytes_eq word (codes "key") then Some kind.Key
    else if bytes_eq word (codes "notes") then Some kind.Notes
    else None

-- the query of this kind and text
abbrev pub query_of : QueryKind → List ℕ → Query
query_of kind.Title text = query.Title text
query_of kind.Rhythm text = query.Rhythm text
query_of kind.Key text = query.Key text
query_of kind.Notes text = query.Notes text

-- `find KIND TEXT`: the text has any bytes, or none
abbrev pub find_of : Option QueryKind → List ℕ → ScriptLine
find_of None text = Bad
find_of (Some kind) text = Whole (of.Find (query_of kind text))

-- what a line asks for that begins with `find`, by what follows
abbrev pub meaning_of_find : List ℕ → ScriptLine
meaning_of_find rest = find_of (query_kind (word_of rest)) (rest_of rest)

-- LINES
-- what a line asks for: only the text of a query may have more words or fewer
abbrev pub meaning_of_line : List ℕ → ScriptLine
meaning_of_line line =
    if bytes_eq (word_of line) (codes "find") then meaning_of_find (rest_of line)
    else meaning_of (words_of line)

-- MEMORY
-- whether a command holds a text, for which memory is taken: a book, a query's text, or a name
abbrev pub holds_text : Command → Bool
holds_text (of.Import book) = true
holds_text (of.Replace number revision book) = true
holds_text (of.Find query) = true
holds_text (of.SetNew name) = true
holds_text (of.SetAdd name number) = true
holds_text (of.SetCut name place) = true
holds_text (of.SetDrop name) = true
holds_text (of.SetShow name) = true
holds_text (of.ExportSet name) = true
holds_text command = false

-- whether a line holds a command whole, and a text in it
abbrev pub line_holds_text : ScriptLine → Bool
line_holds_text (Whole command) = holds_text command
line_holds_text line = false
