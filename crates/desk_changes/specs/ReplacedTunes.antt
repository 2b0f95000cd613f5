-- What the order does that puts the tune of a book in the place of a tune.
use Rattle.std.specs.Prelude.{◌≡◌, ◌≢◌, ◌⊎◌, ℕ, ◌+◌, List, [], ◌∷◌, ◌++◌, Ok, Option}
use Rattle.std.specs.Prelude.{None, Some, codes, count_by, decimal, if◌then◌else◌, string_bytes}
use Rattle.std.specs.Str.{bytes_eq}
use Rattle.abc_fields.specs.Books.{book_answer}
use Rattle.told_books.specs.Fates.{book_lines, fates_of, is_dropped}
use Rattle.tune_disk.specs.declared.disk.Disk as disk
use Rattle.tune_scripts.specs.Streams.{Streams}
use Rattle.tune_store.specs.Limits.{longest_text}
use Rattle.tune_store.specs.State.{State, tune_at}
use Rattle.tune_store.specs.declared.layout.Layout.TheVariants.{Two}
use Rattle.tune_store.specs.declared.tune.Tune.{Tune}
use Rattle.tune_changes.specs.Planning.{planned_replace}
use Rattle.tune_changes.specs.declared.turns.Turn.{Turn}
use Rattle.tune_undo.specs.declared.old_entries.EntryKind.TheVariants as kind
use Rattle.tune_desk.specs.DeskDeeds.{DeskDeed, read}
use Rattle.desk_scenes.specs.Printing.{ReadsAll, WritesNothing, WritesOrFails}
use Rattle.desk_scenes.specs.Scenes.{IsQuiet, Scene}
use Rattle.desk_changes.specs.ChangedFiles.{ChangesFile}
use Rattle.desk_changes.specs.declared.replacing.AskedReplacement.{AskedReplacement}
use Rattle.desk_changes.specs.declared.replacing.Replacement.{Replacement}

-- What is asked: the number of a tune, the revision that it is to have, if one is given, and the
-- path of a book.
pub record Replacing : Type 0 where
  pub number : ℕ
  pub revision : Option ℕ
  pub book : List ℕ

abbrev pub replacing_by : AskedReplacement → Replacing
replacing_by asked =
    record { number = asked.number; revision = asked.revision; book = string_bytes asked.book.now }

-- THE BOOK
-- It was read: standard input to its end, for `-`, or a file.
abbrev pub ReadsOneBook : {D : Type 0} → List ℕ → List ℕ → Streams → List (DeskDeed D)
    → List (DeskDeed D) → Type 0
ReadsOneBook path book streams was now =
    ((path ≡ codes "-") × ReadsAll streams book × (now ≡ was))
    ⊎ ((path ≢ codes "-") × (streams.input.now ≡ streams.input.was)
    × (now ≡ was ++ read path (Ok book) ∷ []))

-- It has one tune, of this text, and each of its lines is kept.
pub record IsBookOf (text book : List ℕ) : Type 0 where
  pub one : book_answer (longest_text Two) book ≡ Ok (text ∷ [])
  pub whole : count_by is_dropped (fates_of (book_lines book)) ≡ 0

-- The book of a text was read.
abbrev pub ReadsText : {D : Type 0} → List ℕ → List ℕ → Streams → List (DeskDeed D)
    → List (DeskDeed D) → Type 0
ReadsText path text streams was now =
    (book : List ℕ) × ReadsOneBook path book streams was now × IsBookOf text book

-- FILE
-- the line that tells of a tune which gets a text: the revision that it has then, or that it had
-- this text before
abbrev pub replaced_line : Replacement → Option Tune → List ℕ
replaced_line what None = []
replaced_line what (Some tune) = if bytes_eq tune.text what.text
    then codes "tune " ++ decimal what.number ++ codes " is not changed\n"
    else codes "tune " ++ decimal what.number ++ codes " has revision "
    ++ decimal (tune.revision + 1) ++ codes " now\n"

-- These turns, and this line, are what a replacement comes to.
pub record ReplacesByTurns (what : Replacement) (line : List ℕ) (state : State) (turns : List Turn)
    : Type 0 where
  pub planned : planned_replace what.number what.revision what.text state ≡ Ok turns
  pub told : line ≡ replaced_line what (tune_at what.number state.tunes)

-- FILE was changed by them, and the line was printed; or FILE was not, the status says so, and
-- nothing was printed.
abbrev pub ReplacesText : {D : Type 0} → disk.Ghosts D → List ℕ → Replacement → Scene D → Type 0
ReplacesText disks file what scene = (line : List ℕ) × (changed : ℕ)
    × ChangesFile disks file kind.Replace (ReplacesByTurns what line)
    (record { was = scene.was; now = scene.now; status = changed })
    × (((changed ≡ 0) × WritesOrFails scene.streams line scene.status)
    ⊎ ((changed ≢ 0) × WritesNothing scene.streams × (scene.status ≡ changed)))

-- THE THEOREM OF A REPLACEMENT. A book was read, and so FILE was changed, or not; or the book was
-- not read, or it was refused: then nothing was done, and the status says so.
abbrev pub ReplacesTune : {D : Type 0} → disk.Ghosts D → List ℕ → Replacing → Scene D → Type 0
ReplacesTune {D} disks file asked scene = ((text : List ℕ) × (mid : List (DeskDeed D))
    × ReadsText asked.book text scene.streams scene.was mid
    × ReplacesText disks file
    (record { number = asked.number; revision = asked.revision; text = text })
    (record scene { was = mid }))
    ⊎ (IsQuiet scene.was scene.now × WritesNothing scene.streams × (scene.status ≢ 0))
