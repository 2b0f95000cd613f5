-- The bytes of replies. A number is written in decimal, without leading zeros.
use Rattle.std.specs.Prelude.{ℕ, ◌+◌, List, [], ◌∷◌, ◌++◌, length, codes}
use Rattle.std.specs.Prelude.{Option, None, Some, Result, Ok, Err}
use Rattle.std.specs.Fmt.{decimal}
use Rattle.abc_fields.specs.declared.book.TuneFault.{TuneFault}
use Rattle.abc_fields.specs.declared.book.TuneFault.TheVariants.{NoKey, TooLong}
use Rattle.tune_books.specs.WrittenBooks.{written_tune}
use Rattle.tune_sets.specs.declared.set_rows.SetRow.{SetRow}
use Rattle.tune_store.specs.declared.tune.Tune.{Tune}
use Rattle.tune_store.specs.declared.index_rows.IndexRow.{IndexRow}
use Rattle.tune_store.specs.declared.command.Reply.{Reply}
use Rattle.tune_store.specs.declared.command.Reply.TheVariants.{Imported, Replaced, Deleted, Shown}
use Rattle.tune_store.specs.declared.command.Reply.TheVariants.{Renumbered, Found, Titled, Exported}
use Rattle.tune_store.specs.declared.command.Reply.TheVariants.{SetMade, SetAdded, SetCut}
use Rattle.tune_store.specs.declared.command.Reply.TheVariants.{SetDropped, Sets, SetShown}
use Rattle.tune_store.specs.declared.command.Reply.TheVariants.{Upgraded}
use Rattle.tune_store.specs.declared.command.Reply.TheVariants.{SetExported}
use Rattle.tune_store.specs.declared.command.Refusal.{Refusal}
use Rattle.tune_store.specs.declared.command.Refusal.TheVariants.{BookTooLong, NoTune}
use Rattle.tune_store.specs.declared.command.Refusal.TheVariants.{BadTune, NotOne, Unknown, Stale}
use Rattle.tune_store.specs.declared.command.Refusal.TheVariants.{Worn, ArchiveFull, NumbersSpent}
use Rattle.tune_store.specs.declared.command.Refusal.TheVariants.{OutOfMemory}
use Rattle.tune_store.specs.declared.command.Refusal.TheVariants.{Device, Closed}
use Rattle.tune_store.specs.declared.command.Refusal.TheVariants.{Taken, InSet, NoSuchSet, SetTaken}
use Rattle.tune_store.specs.declared.command.Refusal.TheVariants.{SetFull, SetsFull, NoSuchPlace}
use Rattle.tune_store.specs.declared.command.Refusal.TheVariants.{BadName, BadNumber, BadQuery}

-- LINES
-- a line: these words, and a number at its end
abbrev pub with_number : List ℕ → ℕ → List ℕ
with_number words number = words ++ decimal number ++ codes "\n"

-- a line: these words, and the name of a set at its end
abbrev pub with_name : List ℕ → List ℕ → List ℕ
with_name words name = words ++ name ++ codes "\n"

-- a line: these words, the name of a set, and a number at its end
abbrev pub with_name_number : List ℕ → List ℕ → ℕ → List ℕ
with_name_number words name number = words ++ name ++ codes " " ++ decimal number ++ codes "\n"

-- ROWS
-- a space and the title, where there is one
abbrev pub title_bytes : Option (List ℕ) → List ℕ
title_bytes None = []
title_bytes (Some title) = codes " " ++ title

-- a tune's number, and a title where it has one
abbrev pub row_bytes : IndexRow → List ℕ
row_bytes row = decimal row.number ++ title_bytes row.title ++ codes "\n"

abbrev pub rows_bytes : List IndexRow → List ℕ
rows_bytes [] = []
rows_bytes (row ∷ rows) = row_bytes row ++ rows_bytes rows

-- the same, each row after its place, from this one on
abbrev pub places_bytes : ℕ → List IndexRow → List ℕ
places_bytes place [] = []
places_bytes place (row ∷ rows) =
    (decimal place ++ codes " " ++ row_bytes row) ++ places_bytes (place + 1) rows

-- the name of each set, and how many places it has
abbrev pub set_rows_bytes : List SetRow → List ℕ
set_rows_bytes [] = []
set_rows_bytes (row ∷ rows) = with_name_number [] row.name row.places ++ set_rows_bytes rows

-- ACCEPTED COMMANDS
-- the tune as a written book has it
abbrev pub shown_tune : Tune → List ℕ
shown_tune tune = written_tune tune.number tune.text

-- the number, the revision and how many bytes follow the line, and then the tune
abbrev pub shown_bytes : Tune → List ℕ
shown_bytes tune =
    codes "ok show " ++ decimal tune.number ++ codes " " ++ decimal tune.revision ++ codes " "
    ++ decimal (length (shown_tune tune)) ++ codes "\n" ++ shown_tune tune

-- how many bytes follow the line, and then the book
abbrev pub exported_bytes : List ℕ → List ℕ
exported_bytes book = with_number (codes "ok export ") (length book) ++ book

abbrev pub reply_bytes : Reply → List ℕ
reply_bytes (Imported first last) =
    codes "ok import " ++ decimal first ++ codes " " ++ decimal last ++ codes "\n"
reply_bytes (Replaced number revision) =
    codes "ok replace " ++ decimal number ++ codes " " ++ decimal revision ++ codes "\n"
reply_bytes (Deleted number) = with_number (codes "ok delete ") number
reply_bytes (Renumbered number to) =
    codes "ok renumber " ++ decimal number ++ codes " " ++ decimal to ++ codes "\n"
reply_bytes (Shown tune) = shown_bytes tune
reply_bytes (Found rows) = with_number (codes "ok find ") (length rows) ++ rows_bytes rows
reply_bytes (Titled rows) = with_number (codes "ok titles ") (length rows) ++ rows_bytes rows
reply_bytes (SetMade name) = with_name (codes "ok set-new ") name
reply_bytes (SetAdded name place) = with_name_number (codes "ok set-add ") name place
reply_bytes (SetCut name place) = with_name_number (codes "ok set-cut ") name place
reply_bytes (SetDropped name) = with_name (codes "ok set-drop ") name
reply_bytes (Sets rows) = with_number (codes "ok sets ") (length rows) ++ set_rows_bytes rows
reply_bytes (SetShown name rows) =
    with_name_number (codes "ok set-show ") name (length rows) ++ places_bytes 1 rows
reply_bytes (Exported book) = exported_bytes book
reply_bytes (SetExported name book) =
    with_name_number (codes "ok export-set ") name (length book) ++ book
reply_bytes Upgraded = codes "ok upgrade 2\n"

-- REFUSED COMMANDS
abbrev pub fault_name : TuneFault → List ℕ
fault_name NoKey = codes "NoKey"
fault_name TooLong = codes "TooLong"

-- `refused`, the refusal's number and name, and what it carries
abbrev pub refusal_bytes : Refusal → List ℕ
refusal_bytes NoTune = codes "refused 1 NoTune\n"
refusal_bytes (BadTune place fault) =
    codes "refused 2 BadTune " ++ (decimal place ++ (codes " " ++ (fault_name fault ++ codes "\n")))
refusal_bytes (NotOne count) = with_number (codes "refused 3 NotOne ") count
refusal_bytes (Unknown number) = with_number (codes "refused 4 Unknown ") number
refusal_bytes (Stale revision) = with_number (codes "refused 5 Stale ") revision
refusal_bytes Worn = codes "refused 6 Worn\n"
refusal_bytes (Taken number) = with_number (codes "refused 7 Taken ") number
refusal_bytes (InSet name) = with_name (codes "refused 8 InSet ") name
refusal_bytes ArchiveFull = codes "refused 9 ArchiveFull\n"
refusal_bytes NumbersSpent = codes "refused 10 NumbersSpent\n"
refusal_bytes NoSuchSet = codes "refused 11 NoSuchSet\n"
refusal_bytes SetTaken = codes "refused 12 SetTaken\n"
refusal_bytes SetFull = codes "refused 13 SetFull\n"
refusal_bytes SetsFull = codes "refused 14 SetsFull\n"
refusal_bytes NoSuchPlace = codes "refused 15 NoSuchPlace\n"
refusal_bytes BadName = codes "refused 16 BadName\n"
refusal_bytes BadNumber = codes "refused 17 BadNumber\n"
refusal_bytes BadQuery = codes "refused 18 BadQuery\n"
refusal_bytes BookTooLong = codes "refused 19 BookTooLong\n"
refusal_bytes OutOfMemory = codes "refused 21 OutOfMemory\n"
refusal_bytes Device = codes "refused 22 Device\n"
refusal_bytes Closed = codes "refused 23 Closed\n"

abbrev pub answer_bytes : Result Reply Refusal → List ℕ
answer_bytes (Ok reply) = reply_bytes reply
answer_bytes (Err refusal) = refusal_bytes refusal

-- a line that is no command, or a book that the input's end cuts
abbrev pub bad_line_bytes : List ℕ
bad_line_bytes = codes "refused 30 BadLine\n"

-- BESIDE COMMANDS
-- the layout of an archive, and how many tunes and set lists it holds
abbrev pub line_of : ℕ → ℕ → ℕ → List ℕ
line_of layout tunes sets =
    codes "layout " ++ decimal layout ++ codes " tunes " ++ decimal tunes ++ codes " sets "
    ++ decimal sets ++ codes "\n"
