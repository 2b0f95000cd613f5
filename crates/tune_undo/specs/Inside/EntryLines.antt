-- How the lines of entries and marks are read.
use Rattle.std.specs.Prelude.{ℕ, ◌+◌, ◌-◌, ◌^◌, List, [], ◌∷◌, length, drop, codes, nat_lt}
use Rattle.std.specs.Prelude.{Option, None, Some, ◌==◌, ◌&&◌, if◌then◌else◌}
use Rattle.abc_fields.specs.Bytes.{space, line_feed}
use Rattle.tune_undo.specs.Inside.ItemReading.{◌>>=◌, bytes_after, field_at, number_read_at}
use Rattle.tune_undo.specs.Inside.ItemReading.{kind_read}
use Rattle.tune_undo.specs.Inside.ItemReading.{length_of, number_read, after_of_word, mark_of}
use Rattle.tune_undo.specs.OldItems.{is_old_kind, after_old}
use Rattle.tune_undo.specs.declared.part_lines.TuneLine.{TuneLine}
use Rattle.tune_undo.specs.declared.part_lines.FirstLine.{FirstLine}
use Rattle.tune_undo.specs.declared.part_lines.OldLine.{OldLine}
use Rattle.tune_undo.specs.declared.old_entries.Mark.{Mark}
use Rattle.tune_undo.specs.declared.old_entries.EntryKind.{EntryKind}
use Rattle.tune_undo.specs.declared.old_entries.After.{After}

-- the line of a tune, and what follows it
abbrev pub tune_line_at : List ℕ → Option (TuneLine × List ℕ)
tune_line_at bytes = do
  front ← bytes_after (codes "% tune ") bytes
  number ← number_read_at space front
  was_word ← bytes_after (codes "was ") number.1
  was_field ← field_at space was_word
  was ← length_of was_field.0
  is_word ← bytes_after (codes "is ") was_field.1
  is_field ← field_at line_feed is_word
  is ← after_of_word is_field.0
  Some (record { number = number.0; was = was; is = is }, is_field.1)

-- the `X:` line of a tune: its number, and what follows it
abbrev pub number_line_at : List ℕ → Option (ℕ × List ℕ)
number_line_at bytes = do
  front ← bytes_after (codes "X:") bytes
  number_read_at line_feed front

-- the line of a set list with this word: its name, its numbers as they are written, what follows
abbrev pub set_line_at : List ℕ → List ℕ → Option (List ℕ × List ℕ × List ℕ)
set_line_at word bytes = do
  front ← bytes_after (codes "% set ") bytes
  name ← field_at space front
  rest ← bytes_after word name.1
  numbers ← field_at line_feed rest
  Some (name.0, numbers.0, numbers.1)

-- the first line of an entry, and what follows it
abbrev pub first_line_at : List ℕ → Option (FirstLine × List ℕ)
first_line_at bytes = do
  front ← bytes_after (codes "% tunes-book ") bytes
  word ← field_at space front
  kind ← kind_read word.0
  parts ← number_read_at space word.1
  len ← number_read_at line_feed parts.1
  Some (record { kind = kind; parts = parts.0; len = len.0 }, len.1)

-- the line of a mark, and what follows it
abbrev pub mark_line_at : List ℕ → Option (Mark × List ℕ)
mark_line_at bytes = do
  front ← bytes_after (codes "% tunes-book ") bytes
  word ← field_at line_feed front
  mark ← mark_of word.0
  Some (mark, word.1)

-- NUMBERS OF A SET LIST
-- the bytes before the first space
abbrev pub word_before_space : List ℕ → List ℕ
word_before_space [] = []
word_before_space (byte ∷ bytes) = if byte == space then [] else byte ∷ word_before_space bytes

-- a number behind a space, and what follows it
abbrev pub next_number : List ℕ → Option (ℕ × List ℕ)
next_number bytes = do
  front ← bytes_after (codes " ") bytes
  number ← number_read (word_before_space front)
  Some (number, drop (length (word_before_space front)) front)

-- ENTRIES OF BEFORE
-- a length before a sum and a length
abbrev pub first_of_three : List ℕ → Option ℕ
first_of_three word = do
  len ← number_read_at space word
  sum ← number_read_at space len.1
  size ← number_read sum.1
  Some len.0

abbrev pub or_first : Option ℕ → Option ℕ → Option ℕ
or_first (Some len) other = Some len
or_first None other = other

-- a length, alone or before a sum and a length
abbrev pub old_len_of : List ℕ → Option ℕ
old_len_of word = or_first (number_read word) (first_of_three word)

-- the first line of an entry of before, and what follows it
abbrev pub old_line_at : List ℕ → Option (OldLine × List ℕ)
old_line_at bytes = do
  front ← bytes_after (codes "% tunes-book ") bytes
  word ← field_at space front
  kind ← kind_read word.0
  number ← number_read_at space word.1
  revision ← number_read_at space number.1
  lens ← field_at line_feed revision.1
  len ← old_len_of lens.0
  Some (record { kind = kind; number = number.0; revision = revision.0; len = len }, lens.1)

-- what a tune is after a change of before
abbrev pub after_old_of : EntryKind → ℕ → Option After
after_old_of kind revision =
    if nat_lt (revision + 1) (2 ^ 32) && is_old_kind kind then Some (after_old kind revision)
    else None

abbrev pub len_after : ℕ → ℕ → Option ℕ
len_after len line = if nat_lt len line then None else Some (len - line)

-- how long a text is that takes so many bytes with its `X:` line
abbrev pub text_len_of : ℕ → List ℕ → Option ℕ
text_len_of len bytes = do
  line ← number_line_at bytes
  len_after len (length bytes - length line.1)
