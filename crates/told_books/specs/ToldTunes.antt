-- Where the tunes of a book begin, and which of them are refused.
use Rattle.std.specs.Prelude.{ℕ, ◌+◌, List, [], ◌∷◌, length, Bool, true, false, not, nat_lt}
use Rattle.std.specs.Prelude.{Option, Some, None, if◌then◌else◌}
use Rattle.abc_fields.specs.Tunes.{is_tune_start, tune_run, has_key, joined}
use Rattle.abc_fields.specs.FileHeaders.{with_header}
use Rattle.abc_fields.specs.declared.book.BookFault.{BookFault}
use Rattle.abc_fields.specs.declared.book.BookFault.TheVariants.{BookTooLong, NoTune, BadTune}
use Rattle.abc_fields.specs.declared.book.TuneFault.{TuneFault}
use Rattle.abc_fields.specs.declared.book.TuneFault.TheVariants.{NoKey, TooLong}
use Rattle.told_books.specs.declared.tunes.ToldTune.{ToldTune}

-- why a tune of these lines, with those that it carries, is refused where a text may have so many
-- bytes: the key is looked for before the length
abbrev pub fault_of_tune : ℕ → List (List ℕ) → Option TuneFault
fault_of_tune longest run =
    if not (has_key run) then Some NoKey
    else if nat_lt longest (length (joined run)) then Some TooLong
    else None

-- the tunes of these lines, each judged for itself with what it carries of this file header; the
-- first line has this number
abbrev pub told_tunes_from : ℕ → List (List ℕ) → ℕ → List (List ℕ) → List ToldTune
told_tunes_from longest header number [] = []
told_tunes_from longest header number (line ∷ lines) =
    if is_tune_start line
    then record {
      line = number;
      fault = fault_of_tune longest
          (with_header header (tune_run lines));
    }
    ∷ told_tunes_from longest header (number + 1) lines
    else told_tunes_from longest header (number + 1) lines

-- THE BOOK AS A WHOLE
-- the fault of a tune of this place, where it has one, else the answer to the later ones
abbrev pub bad_or : ℕ → Option TuneFault → Option BookFault → Option BookFault
bad_or place None later = later
bad_or place (Some fault) later = Some (BadTune place fault)

-- the first tune that is refused; the first tune has this place
abbrev pub first_bad : ℕ → List ToldTune → Option BookFault
first_bad place [] = None
first_bad place (tune ∷ tunes) = bad_or place tune.fault (first_bad (place + 1) tunes)

-- why a book of these tunes is refused, if it is
abbrev pub book_fault : Bool → List ToldTune → Option BookFault
book_fault true tunes = Some BookTooLong
book_fault false [] = Some NoTune
book_fault false (tune ∷ tunes) = first_bad 1 (tune ∷ tunes)
