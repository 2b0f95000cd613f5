-- What is put at the end of a book of old texts is read there, and nothing else changes.
use Rattle.std.specs.Prelude.{◌≡◌, ℕ, List, [], ◌∷◌, ◌++◌, codes, Bool, true}
use Rattle.std.specs.Prelude.{◌==◌, if◌then◌else◌}
use Rattle.abc_fields.specs.Bytes.{line_feed}
use Rattle.tune_undo.specs.EntryBytes.{IsEntry, entry_bytes, IsMark, mark_bytes}
use Rattle.tune_undo.specs.OldItems.{Item, Entered, Marked, Top, IsItemLog, standing, after_item}

-- whether the last line is ended: there is none, or its line feed is there
abbrev pub is_ended : List ℕ → Bool
is_ended [] = true
is_ended (byte ∷ []) = byte == line_feed
is_ended (byte ∷ other ∷ bytes) = is_ended (other ∷ bytes)

-- what is put before an entry or a mark: the end of the last line, where it is lacking, and an
-- empty line
abbrev pub before_piece : Bool → List ℕ
before_piece ended = if ended then codes "\n" else codes "\n\n"

-- the book to which an entry or a mark is put
abbrev pub made_ready : List ℕ → List ℕ
made_ready book = book ++ before_piece (is_ended book)

-- an entry or a mark as it is written
abbrev pub IsWrittenItem : List ℕ → Item → Type 0
IsWrittenItem bytes (Entered entry) = IsEntry entry × (bytes ≡ entry_bytes entry)
IsWrittenItem bytes (Marked mark) = IsMark mark × (bytes ≡ mark_bytes mark)

-- the items with a piece at the end are those without it, and then that of the piece
abbrev pub AddsItem : List ℕ → List ℕ → Item → Type 0
AddsItem book piece item = (items : List Item) → IsItemLog Top (made_ready book ++ piece) items
    → (before : List Item) × IsItemLog Top (made_ready book) before × (items ≡ before ++ item ∷ [])
    × (standing items ≡ after_item (standing before) item)

-- with a piece at the end that is cut, the items are those without it
abbrev pub AddsNothing : List ℕ → List ℕ → Type 0
AddsNothing book front = (items : List Item) → IsItemLog Top (made_ready book ++ front) items
    → IsItemLog Top (made_ready book) items
