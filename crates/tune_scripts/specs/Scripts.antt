-- What a script means: its commands one by one, the bytes of their replies, how the run ends, and
-- what it leaves of the input. Of the store it says nothing: the answers are given.
use Rattle.std.specs.Prelude.{◌≡◌, ℕ, suc, ◌+◌, List, [], ◌∷◌, ◌++◌, length, take, drop, Bool}
use Rattle.std.specs.Prelude.{nat_lt, if◌then◌else◌, true, false}
use Rattle.std.specs.Io.BufRead.{strip_last}
use Rattle.abc_fields.specs.Bytes.{carriage_return}
use Rattle.abc_fields.specs.Limits.{longest_book}
use Rattle.tune_store.specs.Answers.{stays_open}
use Rattle.tune_store.specs.Runs.{Answered}
use Rattle.tune_store.specs.declared.command.Command.{Command}
use Rattle.tune_store.specs.declared.command.Refusal.TheVariants.{BookTooLong, OutOfMemory}
use Rattle.tune_scripts.specs.declared.script_lines.ScriptLine.{ScriptLine}
use Rattle.tune_scripts.specs.declared.script_lines.ScriptLine.TheVariants.{Blank, Bad, Whole, Book}
use Rattle.tune_scripts.specs.declared.script_lines.BookUse.{BookUse}
use Rattle.tune_scripts.specs.declared.script_runs.RunEnd.{RunEnd}
use Rattle.tune_scripts.specs.declared.script_runs.RunEnd.TheVariants.{Ended, LineBound, LongLine}
use Rattle.tune_scripts.specs.declared.script_runs.RunEnd.TheVariants.{ReaderFault, WriterFault}
use Rattle.tune_scripts.specs.declared.script_runs.RunEnd.TheVariants.{DeviceFault}
use Rattle.tune_scripts.specs.Limits.{longest_line}
use Rattle.tune_scripts.specs.ScriptLines.{meaning_of_line, command_of, holds_text}
use Rattle.tune_scripts.specs.InputLines.{before_feed, after_feed, has_feed}
use Rattle.tune_scripts.specs.Replies.{answer_bytes, refusal_bytes, bad_line_bytes}

-- THE FRONT OF AN INPUT
-- a line without the one carriage return directly before its line feed
abbrev pub line_text : Bool → List ℕ → List ℕ
line_text fed line = if fed then strip_last carriage_return line else line

-- what the front of an input is, and the rest of the input after it
pub data Reading : Type 0 where
  at_end : Reading
  -- a line with too many bytes
  long_line : Reading
  -- a line without a word
  blank_line : List ℕ → Reading
  -- a line that is no command
  bad_line : List ℕ → Reading
  -- a book that the input's end cuts
  cut_book : Reading
  -- a book with too many bytes
  long_book : List ℕ → Reading
  -- a command, with its book
  whole_command : Command → List ℕ → Reading

-- a book of this length and use, at the front of these bytes
abbrev pub reading_of_book : BookUse → ℕ → List ℕ → Reading
reading_of_book book_use len rest =
    if nat_lt (length rest) len then cut_book
    else if nat_lt longest_book len then long_book (drop len rest)
    else whole_command (command_of book_use (take len rest)) (drop len rest)

abbrev pub reading_of_meaning : ScriptLine → List ℕ → Reading
reading_of_meaning Blank rest = blank_line rest
reading_of_meaning Bad rest = bad_line rest
reading_of_meaning (Whole command) rest = whole_command command rest
reading_of_meaning (Book book_use len) rest = reading_of_book book_use len rest

-- a line, whether its line feed came, and what follows
abbrev pub reading_of_line : List ℕ → Bool → List ℕ → Reading
reading_of_line line fed rest =
    if nat_lt longest_line (length line) then long_line
    else reading_of_meaning (meaning_of_line (line_text fed line)) rest

abbrev pub reading_of : List ℕ → Reading
reading_of [] = at_end
reading_of (b ∷ input) =
    reading_of_line (before_feed (b ∷ input)) (has_feed (b ∷ input)) (after_feed (b ∷ input))

-- WHOLE SCRIPTS
-- With at most so many lines, an input writes these bytes, has these commands carried out and so
-- answered, one after another, ends so, and has this last part that is not read. Which answers a
-- command may have is not said here, but what is written of each, and whether the script goes on.
pub data Script : ℕ → List ℕ → List ℕ → List Answered → RunEnd → List ℕ → Type 0 where
  -- THE ENDS
  -- no more lines are read, whether there are more or not: all of the input is left
  line_bound : (input : List ℕ) → Script 0 input [] [] LineBound input
  ended : (n : ℕ) (input : List ℕ) → reading_of input ≡ at_end
      → Script (suc n) input [] [] Ended []
  -- no more of the line is read than shows that it is too long
  at_long_line : (n : ℕ) (input : List ℕ) → reading_of input ≡ long_line
      → Script (suc n) input bad_line_bytes [] LongLine (drop (longest_line + 1) input)
  at_cut_book : (n : ℕ) (input : List ℕ) → reading_of input ≡ cut_book
      → Script (suc n) input bad_line_bytes [] Ended []
  -- the device failed, in this command or before
  device_fault : (n : ℕ) (input rest : List ℕ) (next : Answered)
      → reading_of input ≡ whole_command next.command rest → stays_open next.answer ≡ false
      → Script (suc n) input (answer_bytes next.answer) (next ∷ []) DeviceFault rest
  -- the reader failed in the next line or in its book: what was written is the replies before it
  reader_fault : (n : ℕ) (input : List ℕ) → Script (suc n) input [] [] ReaderFault input
  -- the writer failed in a reply of this run: to a line that does not reach the store
  writer_fault : (n : ℕ) (input rest : List ℕ) → Script (suc n) input [] [] WriterFault rest
  -- or to a command, which took place
  writer_fault_after : (n : ℕ) (input rest : List ℕ) (next : Answered)
      → reading_of input ≡ whole_command next.command rest
      → Script (suc n) input [] (next ∷ []) WriterFault rest
  -- ONE LINE, AND THEN THE REST
  after_blank_line : (n : ℕ) (input rest out unread : List ℕ) (run : List Answered) (end : RunEnd)
      → reading_of input ≡ blank_line rest → Script n rest out run end unread
      → Script (suc n) input out run end unread
  after_bad_line : (n : ℕ) (input rest out unread : List ℕ) (run : List Answered) (end : RunEnd)
      → reading_of input ≡ bad_line rest → Script n rest out run end unread
      → Script (suc n) input (bad_line_bytes ++ out) run end unread
  after_long_book : (n : ℕ) (input rest out unread : List ℕ) (run : List Answered) (end : RunEnd)
      → reading_of input ≡ long_book rest → Script n rest out run end unread
      → Script (suc n) input (refusal_bytes BookTooLong ++ out) run end unread
  -- there is no memory for the text that the command holds: the command does not reach the store
  after_no_room : (n : ℕ) (input rest out unread : List ℕ) (run : List Answered) (end : RunEnd)
      (command : Command) → reading_of input ≡ whole_command command rest
      → holds_text command ≡ true → Script n rest out run end unread
      → Script (suc n) input (refusal_bytes OutOfMemory ++ out) run end unread
  after_answer : (n : ℕ) (input rest out unread : List ℕ) (next : Answered)
      (run : List Answered) (end : RunEnd) → reading_of input ≡ whole_command next.command rest
      → stays_open next.answer ≡ true → Script n rest out run end unread
      → Script (suc n) input (answer_bytes next.answer ++ out) (next ∷ run) end unread
