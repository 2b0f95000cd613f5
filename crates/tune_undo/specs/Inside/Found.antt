-- What the walk over a book of old texts finds, and what it leaves.
use Rattle.std.specs.Prelude.{◌≡◌, ℕ, List, [], ◌∷◌, ◌++◌, Bool, true, false, Option, None, Some}
use Rattle.tune_undo.specs.OldEntries.{EntryValue, entry_value, StepValue}
use Rattle.tune_undo.specs.OldItems.{Item, Entered, Marked, ItemPlace, Top, Start, next, IsItemLog}
use Rattle.tune_undo.specs.OldItems.{after_item, OldEntry, IsOld, entry_of_old, old_bytes}
use Rattle.tune_undo.specs.declared.old_items.Found.{Found}
use Rattle.tune_undo.specs.declared.old_items.Found.TheVariants as found

abbrev pub found_value : Found → Item
found_value (found.Entry entry) = Entered (entry_value entry)
found_value (found.Mark mark) = Marked mark

-- the place at the top of a line, after an empty line or not
abbrev pub place_of : Bool → ItemPlace
place_of true = Top
place_of false = Start

-- the items of a book that begin behind its first byte, which is at the top of a line
abbrev pub IsLaterLog : List ℕ → List Item → Type 0
IsLaterLog [] items = items ≡ []
IsLaterLog (byte ∷ bytes) items = IsItemLog (next Start byte) bytes items

-- the steps after what was found, if something was
abbrev pub after_found : List StepValue → Option Item → List StepValue
after_found steps None = steps
after_found steps (Some item) = after_item steps item

-- an entry of before that was read
pub record OldRead (bytes : List ℕ) (entry : EntryValue) : Type 0 where
  pub old : OldEntry
  pub good : IsOld old
  pub same : entry_of_old old ≡ entry
  pub rest : List ℕ
  pub whole : old_bytes old ++ rest ≡ bytes
