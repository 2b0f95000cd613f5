-- Which entries and marks a book of old texts has, and which entries are not undone.
use Rattle.std.specs.Prelude.{◌≡◌, ℕ, ◌+◌, ◌^◌, ◌<◌, List, [], ◌∷◌, ◌++◌, length, codes, decimal}
use Rattle.std.specs.Prelude.{◌⊎◌, ◌==◌, Bool, true, false, if◌then◌else◌}
use Rattle.std.specs.Prelude.{Option, None, Some, IfSome}
use Rattle.std.specs.Option.{option_to_list}
use Rattle.abc_fields.specs.Bytes.{line_feed}
use Rattle.abc_fields.specs.Limits.{longest_tune}
use Rattle.abc_fields.specs.Tunes.{IsTextWithin}
use Rattle.tune_undo.specs.OldEntries.{EntryValue, StepValue}
use Rattle.tune_undo.specs.EntryBytes.{kind_word, book_tune, IsEntry, entry_bytes}
use Rattle.tune_undo.specs.EntryBytes.{IsMark, mark_bytes}
use Rattle.tune_undo.specs.declared.old_entries.EntryKind.{EntryKind}
use Rattle.tune_undo.specs.declared.old_entries.EntryKind.TheVariants as kind
use Rattle.tune_undo.specs.declared.old_entries.After.{After}
use Rattle.tune_undo.specs.declared.old_entries.After.TheVariants.{Nothing, Revision}
use Rattle.tune_undo.specs.declared.old_entries.Part.TheVariants.{Tune}
use Rattle.tune_undo.specs.declared.old_entries.Mark.{Mark}
use Rattle.tune_undo.specs.declared.old_entries.Mark.TheVariants.{NotDone, Undone, Undoing}

-- ENTRIES OF BEFORE
-- one tune that was deleted, replaced or kept, with its revision; behind the length may stand the
-- sum and the length of what was put in its place, by `cksum`
pub record OldEntry : Type 0 where
  pub kind : EntryKind
  pub number : ℕ
  pub revision : ℕ
  pub text : List ℕ
  pub made : Option (ℕ × ℕ)

abbrev pub made_bytes : Option (ℕ × ℕ) → List ℕ
made_bytes None = []
made_bytes (Some made) = codes " " ++ (decimal made.0 ++ (codes " " ++ decimal made.1))

abbrev pub old_bytes : OldEntry → List ℕ
old_bytes old = codes "% tunes-book " ++ (kind_word old.kind ++ (codes " "
    ++ (decimal old.number ++ (codes " " ++ (decimal old.revision ++ (codes " "
    ++ (decimal (length (book_tune old.number old.text)) ++ (made_bytes old.made
    ++ (codes "\n" ++ book_tune old.number old.text)))))))))

-- the kinds that there were
abbrev pub is_old_kind : EntryKind → Bool
is_old_kind kind.Delete = true
is_old_kind kind.Replace = true
is_old_kind kind.Kept = true
is_old_kind _ = false

pub record IsOld (old : OldEntry) : Type 0 where
  pub kind : is_old_kind old.kind ≡ true
  pub number : old.number < 2 ^ 32
  pub revision : old.revision + 1 < 2 ^ 32
  pub text : IsTextWithin longest_tune old.text
  pub made : IfSome old.made (λ made. (made.0 < 2 ^ 32) × (made.1 < 2 ^ 32))

-- what is replaced has the next revision then; else the tune is not there
abbrev pub after_old : EntryKind → ℕ → After
after_old kind.Replace revision = Revision (revision + 1)
after_old _ revision = Nothing

abbrev pub entry_of_old : OldEntry → EntryValue
entry_of_old old = record {
  kind = old.kind;
  parts = Tune old.number (Some old.text) (after_old old.kind old.revision) ∷ [];
}

-- WHAT STANDS IN THE BOOK
-- an entry, or a mark
pub data Item : Type 0 where
  Entered : EntryValue → Item
  Marked : Mark → Item

-- how a mark is written; one of before names no greatest number, and is read as if it were 0
abbrev pub IsMarkWritten : List ℕ → Mark → Type 0
IsMarkWritten bytes mark = (IsMark mark × (bytes ≡ mark_bytes mark))
    ⊎ ((bytes ≡ codes "% tunes-book undoing\n") × (mark ≡ Undoing 0))

-- how an entry is written, today or before
abbrev pub IsEntryWritten : List ℕ → EntryValue → Type 0
IsEntryWritten bytes entry = (IsEntry entry × (bytes ≡ entry_bytes entry))
    ⊎ ((old : OldEntry) × IsOld old × (bytes ≡ old_bytes old) × (entry_of_old old ≡ entry))

abbrev pub IsItemWritten : List ℕ → Item → Type 0
IsItemWritten bytes (Entered entry) = IsEntryWritten bytes entry
IsItemWritten bytes (Marked mark) = IsMarkWritten bytes mark

-- these bytes begin with all of an item
pub record BeginsWithItem (bytes : List ℕ) (item : Item) : Type 0 where
  pub front : List ℕ
  pub rest : List ℕ
  pub whole : front ++ rest ≡ bytes
  pub written : IsItemWritten front item

-- where a byte stands: at the top of a line after an empty line or at the front of the book, at
-- the top of another line, or within a line
pub data ItemPlace : Type 0 where
  Top : ItemPlace
  Start : ItemPlace
  Within : ItemPlace

abbrev pub place_after_feed : ItemPlace → ItemPlace
place_after_feed Within = Start
place_after_feed Start = Top
place_after_feed Top = Top

-- the place after a byte
abbrev pub next : ItemPlace → ℕ → ItemPlace
next place byte = if byte == line_feed then place_after_feed place else Within

-- what stands at a place: the item that begins there, if it is at the top after an empty line
abbrev pub Stands : ItemPlace → List ℕ → Option Item → Type 0
Stands Top bytes (Some item) = BeginsWithItem bytes item
Stands Top bytes None = (item : Item) → ¬ BeginsWithItem bytes item
Stands Start bytes found = found ≡ None
Stands Within bytes found = found ≡ None

-- the items of a book from a place on, in order
abbrev pub IsItemLog : ItemPlace → List ℕ → List Item → Type 0
IsItemLog place [] items = items ≡ []
IsItemLog place (byte ∷ bytes) items = (found : Option Item) × (later : List Item)
    × Stands place (byte ∷ bytes) found × IsItemLog (next place byte) bytes later
    × (items ≡ option_to_list found ++ later)

-- WHAT IS NOT UNDONE
-- a text that is kept is no step
abbrev pub is_step : EntryKind → Bool
is_step kind.Kept = false
is_step _ = true

-- all but the last
abbrev pub without_last : List StepValue → List StepValue
without_last [] = []
without_last (step ∷ []) = []
without_last (step ∷ other ∷ steps) = step ∷ without_last (other ∷ steps)

-- the undoing of the last one is begun
abbrev pub begun_last : ℕ → List StepValue → List StepValue
begun_last greatest [] = []
begun_last greatest (step ∷ []) = record { entry = step.entry; begun = Some greatest } ∷ []
begun_last greatest (step ∷ other ∷ steps) = step ∷ begun_last greatest (other ∷ steps)

-- the steps after a mark, and after an item
abbrev pub after_mark : List StepValue → Mark → List StepValue
after_mark steps NotDone = without_last steps
after_mark steps Undone = without_last steps
after_mark steps (Undoing greatest) = begun_last greatest steps

abbrev pub after_item : List StepValue → Item → List StepValue
after_item steps (Entered entry) =
    if is_step entry.kind then steps ++ record { entry = entry; begun = None } ∷ [] else steps
after_item steps (Marked mark) = after_mark steps mark

abbrev pub standing_after : List StepValue → List Item → List StepValue
standing_after steps [] = steps
standing_after steps (item ∷ items) = standing_after (after_item steps item) items

-- the entries that are not undone, the first one first
abbrev pub standing : List Item → List StepValue
standing items = standing_after [] items
