-- What is told of books that are tried without an archive: to standard output a line for each that
-- was read and would be taken in, in order; and the status.
use Rattle.std.specs.Prelude.{◌≡◌, ◌≢◌, ◌⊎◌, ℕ, List, [], ◌++◌, length, max}
use Rattle.std.specs.Prelude.{Bool, true, false, not, ◌&&◌, ◌||◌, nat_eq, ◌==◌, if◌then◌else◌}
use Rattle.std.specs.Prelude.{String, Result, Ok, Err, string_bytes, count_by, codes, decimal}
use Rattle.std.specs.List.{ends_with, list_any}
use Rattle.abc_fields.specs.Books.{Texts, book_answer}
use Rattle.told_books.specs.Fates.{book_lines, fates_of, is_dropped}
use Rattle.tune_store.specs.Limits.{longest_text}
use Rattle.tune_store.specs.declared.layout.Layout.TheVariants.{Two}
use Rattle.tune_scripts.specs.Streams.{Streams}
use Rattle.tune_desk.specs.DeskDeeds.{looked, read, listed}
use Rattle.tune_desk.specs.declared.desk.DeskFault.{DeskFault}
use Rattle.tune_desk.specs.declared.desk.Standing.{Standing}
use Rattle.tune_desk.specs.declared.desk.Standing.TheVariants as standing
use Rattle.desk_books.specs.Stages.{Stage, EachInTurn, after_deed, streams_between}
use Rattle.desk_scenes.specs.Printing.{Prints, IsSilent, ReadsAll, WritesNothing}

-- ONE BOOK
-- the texts of its tunes, or why an import refuses it
abbrev pub answer_to : List ℕ → Texts
answer_to book = book_answer (longest_text Two) book

-- how many of its lines go into nothing that is kept
abbrev pub lost_of : List ℕ → ℕ
lost_of book = count_by is_dropped (fates_of (book_lines book))

abbrev pub tunes_told : ℕ → List ℕ
tunes_told count = decimal count ++ codes " tune" ++ (if count == 1 then [] else codes "s")

abbrev pub lost_told : ℕ → List ℕ
lost_told lost = if lost == 0 then []
    else if lost == 1 then codes "; 1 line of it goes into no tune, and is not kept"
    else codes "; " ++ decimal lost ++ codes " lines of it go into no tune, and are not kept"

-- how many tunes a book of this name has, and how many of its lines are lost
abbrev pub taken_line : List ℕ → ℕ → ℕ → List ℕ
taken_line name tunes lost =
    name ++ codes ": " ++ tunes_told tunes ++ lost_told lost ++ codes "\n"

-- nothing of a book that is refused
abbrev pub summary_by : List ℕ → Texts → ℕ → List ℕ
summary_by name (Ok texts) lost = taken_line name (length texts) lost
summary_by name (Err fault) lost = []

abbrev pub summary : List ℕ → List ℕ → List ℕ
summary name book = summary_by name (answer_to book) (lost_of book)

-- 0 of a book that an import takes, lines lost or not
abbrev pub status_by : Texts → ℕ
status_by (Ok texts) = 0
status_by (Err fault) = 1

-- A book was told: its summary was printed, and the status is 1 at least where it is refused; or
-- there was no memory for that, and nothing was printed.
abbrev pub TellsBook : List ℕ → List ℕ → Streams → ℕ → Type 0
TellsBook name book streams status =
    ((printing : ℕ) × Prints streams (summary name book) printing
    × (status ≡ max (status_by (answer_to book)) printing))
    ⊎ (IsSilent streams × (status ≡ 1))

-- FILES
-- what comes of a reading of this file
abbrev pub TellsRead : {D : Type 0} → List ℕ → Result (List ℕ) DeskFault → Stage D → Stage D → ℕ
    → Type 0
TellsRead name (Ok book) old new status = (new.deeds ≡ old.deeds)
    × TellsBook name book (streams_between old new) status
TellsRead name (Err fault) old new status = (new ≡ old) × (status ≡ 1)

-- A file was read, and told.
abbrev pub TellsFile : {D : Type 0} → List ℕ → Stage D → Stage D → ℕ → Type 0
TellsFile path old new status = (answer : Result (List ℕ) DeskFault)
    × TellsRead path answer (after_deed old (read path answer)) new status

-- STANDARD INPUT
-- It was read to its end, and told as a book of the name `-`; or it was not.
abbrev pub TellsInput : {D : Type 0} → Stage D → Stage D → ℕ → Type 0
TellsInput {D} old new status = ((book : List ℕ) × (mid : Stage D)
    × ReadsAll (streams_between old mid) book × (mid.deeds ≡ old.deeds)
    × (mid.output ≡ old.output) × (new.deeds ≡ old.deeds)
    × TellsBook (codes "-") book (streams_between mid new) status)
    ⊎ ((new.deeds ≡ old.deeds) × WritesNothing (streams_between old new) × (status ≡ 1))

-- FOLDERS
-- the names of books: they end in .abc, but not as those of old texts do
abbrev pub is_book_name : List ℕ → Bool
is_book_name name = (ends_with nat_eq name (codes ".abc") || ends_with nat_eq name (codes ".ABC"))
    && not (ends_with nat_eq name (codes ".old.abc"))

-- A file of a folder was read, and told; or there was no memory for its path.
abbrev pub TellsOneOf : {D : Type 0} → List ℕ → List ℕ → Stage D → Stage D → ℕ → Type 0
TellsOneOf folder name old new status = TellsFile (folder ++ codes "/" ++ name) old new status
    ⊎ ((new ≡ old) × (status ≡ 1))

-- what is done for a name in a folder: of no book nothing
abbrev pub TellsBookName : {D : Type 0} → List ℕ → List ℕ → Stage D → Stage D → ℕ → Type 0
TellsBookName folder name old new status =
    ((is_book_name name ≡ true) × TellsOneOf folder name old new status)
    ⊎ ((is_book_name name ≡ false) × (new ≡ old) × (status ≡ 0))

-- for its names in turn; where none is that of a book, the status is 2
abbrev pub TellsListed : {D : Type 0} → List ℕ → Result (List (List ℕ)) DeskFault → Stage D
    → Stage D → ℕ → Type 0
TellsListed folder (Ok names) old new status = ((list_any is_book_name names ≡ true)
    × EachInTurn (TellsBookName folder) names old new status)
    ⊎ ((list_any is_book_name names ≡ false) × (new ≡ old) × (status ≡ 2))
TellsListed folder (Err fault) old new status = (new ≡ old) × (status ≡ 1)

abbrev pub TellsFolder : {D : Type 0} → List ℕ → Stage D → Stage D → ℕ → Type 0
TellsFolder folder old new status = (names : Result (List (List ℕ)) DeskFault)
    × TellsListed folder names (after_deed old (listed folder names)) new status

-- PATHS
-- by what stands at a path
abbrev pub TellsStanding : {D : Type 0} → List ℕ → Result Standing DeskFault → Stage D → Stage D
    → ℕ → Type 0
TellsStanding path (Ok standing.Folder) old new status = TellsFolder path old new status
TellsStanding path (Ok standing.Nothing) old new status = (new ≡ old) × (status ≡ 2)
TellsStanding path (Ok standing.File) old new status = TellsFile path old new status
TellsStanding path (Ok standing.Other) old new status = TellsFile path old new status
TellsStanding path (Err fault) old new status = (new ≡ old) × (status ≡ 1)

-- `-` is standard input
abbrev pub TellsPath : {D : Type 0} → List ℕ → Stage D → Stage D → ℕ → Type 0
TellsPath path old new status = ((path ≡ codes "-") × TellsInput old new status)
    ⊎ ((path ≢ codes "-") × (found : Result Standing DeskFault)
    × TellsStanding path found (after_deed old (looked path found)) new status)

-- each of these paths, in order
abbrev pub TellsPaths : {A D : Type 0} → List (String A) → Stage D → Stage D → ℕ → Type 0
TellsPaths paths old new status =
    EachInTurn (λ path. TellsPath (string_bytes path)) paths old new status
