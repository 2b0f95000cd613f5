-- What goes before a tune that is read alone, and what it is answered.
use Rattle.std.specs.Prelude.{◌≡◌, ◌≤◌, ℕ, List, ◌++◌, length, codes, true, false, None, Some}
use Rattle.std.specs.Prelude.{Result, Ok, Err, ⊤}
use Rattle.std.specs.List.{AllByRecursion}
use Rattle.abc_fields.specs.Lines.{has_no_ending}
use Rattle.abc_fields.specs.Tunes.{joined, is_empty_line}
use Rattle.abc_fields.specs.FileHeaders.{is_header_line}
use Rattle.abc_fields.specs.declared.book.BookFault.{BookFault}
use Rattle.abc_fields.specs.declared.book.BookFault.TheVariants.{BookTooLong, NoTune, BadTune}
use Rattle.abc_fields.specs.declared.book.BookFault.TheVariants.{OutOfMemory}
use Rattle.told_books.specs.Fates.{engraves}
use Rattle.told_books.specs.ToldTunes.{fault_of_tune}
use Rattle.chosen_books.specs.ChosenTunes.{longest_header}
use Rattle.chosen_books.specs.declared.found_tunes.Front.{Front}

-- lines of a text
abbrev pub AllPlain : List (List ℕ) → Type 0
AllPlain lines = AllByRecursion (λ line. has_no_ending line ≡ true) lines

-- a line that may be carried
pub record IsCarriedLine (line : List ℕ) : Type 0 where
  pub plain : has_no_ending line ≡ true
  pub full : is_empty_line line ≡ false
  pub allowed : is_header_line line ≡ true

-- lines between tunes
abbrev pub AllEngrave : List (List ℕ) → Type 0
AllEngrave lines = AllByRecursion (λ line. engraves line ≡ true) lines

-- the front of a book with one tune: an empty line, the lines of the file header, and those between
-- tunes
pub record IsFront (header between : List (List ℕ)) (front : Front) : Type 0 where
  pub bytes : front.bytes.items ≡ codes "\n" ++ joined (header ++ between)
  pub begin : front.begin ≡ length (codes "\n" ++ joined header)
  pub lines : AllByRecursion IsCarriedLine (header ++ between)
  pub engrave : AllEngrave between
  pub short : length (joined header) ≤ longest_header

-- a book with a tune of these lines alone is answered so, where there is memory
abbrev pub IsJudged : ℕ → List (List ℕ) → Result (List ℕ) BookFault → Type 0
IsJudged longest lines (Ok text) = (fault_of_tune longest lines ≡ None) × (text ≡ joined lines)
IsJudged longest lines (Err (BadTune place fault)) = fault_of_tune longest lines ≡ Some fault
IsJudged longest lines (Err OutOfMemory) = ⊤
IsJudged longest lines (Err BookTooLong) = ⊥
IsJudged longest lines (Err NoTune) = ⊥

-- a fact, unless memory ran out
abbrev pub OnMemory : Result (List ℕ) BookFault → Type 0 → Type 0
OnMemory (Err OutOfMemory) fact = ⊤
OnMemory answer fact = fact
