-- Entries and marks as bytes.
use Rattle.std.specs.Prelude.{ℕ, ◌^◌, ◌<◌, List, [], ◌∷◌, ◌++◌, length, codes, decimal}
use Rattle.std.specs.Prelude.{Option, None, Some, ⊤}
use Rattle.std.specs.Option.{option_map}
use Rattle.std.specs.List.{AllByRecursion}
use Rattle.hex.specs.Hex.{encode_lower}
use Rattle.tune_undo.specs.OldEntries.{EntryValue, IsEntryPart}
use Rattle.tune_undo.specs.declared.old_entries.EntryKind.{EntryKind}
use Rattle.tune_undo.specs.declared.old_entries.EntryKind.TheVariants as kind
use Rattle.tune_undo.specs.declared.old_entries.After.{After}
use Rattle.tune_undo.specs.declared.old_entries.After.TheVariants.{Nothing, Text, Revision}
use Rattle.tune_undo.specs.declared.old_entries.Part.{Part}
use Rattle.tune_undo.specs.declared.old_entries.Part.TheVariants.{Tune, Set}
use Rattle.tune_undo.specs.declared.old_entries.Mark.{Mark}
use Rattle.tune_undo.specs.declared.old_entries.Mark.TheVariants.{NotDone, Undone, Undoing}

-- TUNES
-- what a tune is after a change: `none`, or the sum of its text in hexadecimal digits
abbrev pub after_word : After → List ℕ
after_word Nothing = codes "none"
after_word (Text sum) = encode_lower sum
after_word (Revision revision) = codes "revision " ++ decimal revision

-- how long a text is, or `none`
abbrev pub length_word : Option ℕ → List ℕ
length_word None = codes "none"
length_word (Some len) = decimal len

-- the line of a tune: its number, the length of its text before, and what it is after
abbrev pub tune_line : ℕ → Option ℕ → After → List ℕ
tune_line number was is = codes "% tune " ++ (decimal number ++ (codes " was "
    ++ (length_word was ++ (codes " is " ++ (after_word is ++ codes "\n")))))

-- a tune as a book has it: its `X:` line, and its text
abbrev pub book_tune : ℕ → List ℕ → List ℕ
book_tune number text = codes "X:" ++ (decimal number ++ (codes "\n" ++ text))

-- the tune as it was, if it was there, and an empty line
abbrev pub old_text : ℕ → Option (List ℕ) → List ℕ
old_text number None = []
old_text number (Some text) = book_tune number text ++ codes "\n"

-- SET LISTS
-- numbers, each after a space
abbrev pub numbers_bytes : List ℕ → List ℕ
numbers_bytes [] = []
numbers_bytes (number ∷ numbers) = (codes " " ++ decimal number) ++ numbers_bytes numbers

-- the numbers of a set list, or that there is none
abbrev pub list_bytes : Option (List ℕ) → List ℕ
list_bytes None = codes " none"
list_bytes (Some numbers) = numbers_bytes numbers

-- a line of a set list: its name, a word, and its numbers
abbrev pub set_line : List ℕ → List ℕ → Option (List ℕ) → List ℕ
set_line name word numbers =
    codes "% set " ++ (name ++ (word ++ (list_bytes numbers ++ codes "\n")))

-- ENTRIES
abbrev pub part_bytes : Part → List ℕ
part_bytes (Tune number was is) =
    tune_line number (option_map length was) is ++ old_text number was
part_bytes (Set name was is) =
    set_line name (codes " was") was ++ set_line name (codes " is") is

abbrev pub parts_bytes : List Part → List ℕ
parts_bytes [] = []
parts_bytes (part ∷ parts) = part_bytes part ++ parts_bytes parts

abbrev pub kind_word : EntryKind → List ℕ
kind_word kind.Delete = codes "delete"
kind_word kind.Replace = codes "replace"
kind_word kind.Put = codes "put"
kind_word kind.Cut = codes "cut"
kind_word kind.Move = codes "move"
kind_word kind.Drop = codes "drop"
kind_word kind.Add = codes "add"
kind_word kind.AddMore = codes "add-more"
kind_word kind.Load = codes "load"
kind_word kind.Kept = codes "kept"

-- an entry: a line with its kind, how many parts it has and how many bytes these take, and the
-- parts
abbrev pub entry_bytes : EntryValue → List ℕ
entry_bytes entry = codes "% tunes-book " ++ (kind_word entry.kind ++ (codes " "
    ++ (decimal (length entry.parts) ++ (codes " " ++ (decimal (length (parts_bytes entry.parts))
    ++ (codes "\n" ++ parts_bytes entry.parts))))))

-- what a mark says
abbrev pub mark_word : Mark → List ℕ
mark_word NotDone = codes "not done"
mark_word Undone = codes "undone"
mark_word (Undoing greatest) = codes "undoing " ++ decimal greatest

abbrev pub IsMark : Mark → Type 0
IsMark NotDone = ⊤
IsMark Undone = ⊤
IsMark (Undoing greatest) = greatest < 2 ^ 32

abbrev pub mark_bytes : Mark → List ℕ
mark_bytes mark = codes "% tunes-book " ++ (mark_word mark ++ codes "\n")

-- an entry within the limits of the program's types, and of 4 GB
pub record IsEntry (entry : EntryValue) : Type 0 where
  pub parts : AllByRecursion IsEntryPart entry.parts
  pub count : length entry.parts < 2 ^ 32
  pub size : length (parts_bytes entry.parts) < 2 ^ 32
