-- Which tunes of a book are taken in, which are left out, and why a book is refused.
use Rattle.std.specs.Prelude.{◌≡◌, ℕ, List, [], ◌∷◌, ◌++◌, length, map, Bool, not}
use Rattle.std.specs.Prelude.{◌&&◌, ◌||◌, nat_lt, max, if◌then◌else◌}
use Rattle.std.specs.Prelude.{Option, Some, None, Ok}
use Rattle.abc_fields.specs.Limits.{longest_book}
use Rattle.abc_fields.specs.Tunes.{joined}
use Rattle.abc_fields.specs.FileHeaders.{file_header}
use Rattle.abc_fields.specs.Books.{book_answer}
use Rattle.abc_fields.specs.declared.book.BookFault.{BookFault}
use Rattle.abc_fields.specs.declared.book.BookFault.TheVariants.{BookTooLong, NoTune, BadTune}
use Rattle.abc_fields.specs.declared.book.TuneFault.{TuneFault}
use Rattle.told_books.specs.Fates.{book_lines}
use Rattle.told_books.specs.ToldTunes.{fault_of_tune}
use Rattle.desk_terms.specs.declared.adding.Adding.{Adding}
use Rattle.chosen_books.specs.BookTunes.{BookTune, book_tunes}
use Rattle.chosen_books.specs.KnownTexts.{is_known, with_text_sum}
use Rattle.chosen_books.specs.declared.found_tunes.GoodTune.{GoodTune}
use Rattle.chosen_books.specs.declared.found_tunes.LeftOut.{LeftOut}

-- GOOD TUNES AND BAD ONES
-- a tune that may have this fault, before the good ones behind it
abbrev pub good_or : Option TuneFault → BookTune → List GoodTune → List GoodTune
good_or None tune later = record { text = joined tune.lines; carried = tune.carried } ∷ later
good_or (Some fault) tune later = later

-- the texts of those tunes that have a key and are not too long, in order
abbrev pub good_tunes : ℕ → List BookTune → List GoodTune
good_tunes longest [] = []
good_tunes longest (tune ∷ tunes) =
    good_or (fault_of_tune longest tune.lines) tune (good_tunes longest tunes)

-- the same tune, before the bad ones behind it
abbrev pub with_left_out : Option TuneFault → BookTune → List LeftOut → List LeftOut
with_left_out None tune later = later
with_left_out (Some fault) tune later =
    record { place = tune.place; line = tune.line; fault = fault } ∷ later

-- the other tunes, and why each is refused
abbrev pub bad_tunes : ℕ → List BookTune → List LeftOut
bad_tunes longest [] = []
bad_tunes longest (tune ∷ tunes) =
    with_left_out (fault_of_tune longest tune.lines) tune (bad_tunes longest tunes)

-- TUNES THAT ARE NEW
-- this tune before later ones, unless its text is known
abbrev pub new_or : List (List ℕ) → GoodTune → List GoodTune → List GoodTune
new_or sums tune later = if is_known sums tune.text then later else tune ∷ later

-- those whose texts are not known; behind each its text is known
abbrev pub new_tunes : List (List ℕ) → List GoodTune → List GoodTune
new_tunes sums [] = []
new_tunes sums (tune ∷ tunes) = new_or sums tune (new_tunes (with_text_sum sums tune.text) tunes)

-- the sums of what is known behind these tunes
abbrev pub sums_after : List (List ℕ) → List GoodTune → List (List ℕ)
sums_after sums [] = sums
sums_after sums (tune ∷ tunes) = sums_after (with_text_sum sums tune.text) tunes

-- WHAT IS TAKEN IN
-- the tunes of a book that are good, and, where only new ones are asked for, new
abbrev pub chosen_tunes : Adding → ℕ → List (List ℕ) → List ℕ → List GoodTune
chosen_tunes how longest sums book =
    let good = good_tunes longest (book_tunes how.carry book) in
    if how.only_new then new_tunes sums good else good

-- the sums of what is known then: of no more where new ones are not asked for
abbrev pub sums_then : Adding → ℕ → List (List ℕ) → List ℕ → List (List ℕ)
sums_then how longest sums book =
    if how.only_new then sums_after sums (good_tunes longest (book_tunes how.carry book))
    else sums

-- the texts of tunes
abbrev pub texts_of : List GoodTune → List (List ℕ)
texts_of tunes = map (λ tune. tune.text) tunes

-- how many lines between tunes these tunes carry: each carries those of the tunes before it
abbrev pub most_carried : List GoodTune → ℕ
most_carried [] = 0
most_carried (tune ∷ tunes) = max tune.carried (most_carried tunes)

-- whether a tune carries a line that stood between tunes
abbrev pub carries_some : GoodTune → Bool
carries_some tune = nat_lt 0 tune.carried

-- BOOKS THAT GO IN
-- each of these books is imported whole, and their texts, one after another, are these
abbrev pub GoIn : ℕ → List (List ℕ) → List (List ℕ) → Type 0
GoIn longest [] texts = texts ≡ []
GoIn longest (part ∷ parts) texts = (some later : List (List ℕ))
    × (book_answer longest part ≡ Ok some) × (some ++ later ≡ texts) × GoIn longest parts later

-- whether a book goes in as it stands: it is not too long, and nothing is asked for that changes it
abbrev pub stays_whole : Adding → List ℕ → Bool
stays_whole how book =
    not (nat_lt longest_book (length book)) && not (how.only_new || (how.good || how.carry))

-- REFUSALS
-- the bytes of a file header, at most, where the book is written anew
abbrev pub longest_header : ℕ
longest_header = 3800000

-- whether a book that is written anew has a longer file header
abbrev pub has_long_header : Adding → List ℕ → Bool
has_long_header how book = not (stays_whole how book)
    && nat_lt longest_header (length (joined (file_header (book_lines book))))

-- whether a book is too long: without parts, or as its file header is
abbrev pub is_book_too_long : Adding → List ℕ → Bool
is_book_too_long how book =
    (not how.split && nat_lt longest_book (length book)) || has_long_header how book

-- the first tune that is refused, unless bad ones are to be left out
abbrev pub first_refused : Bool → List LeftOut → Option BookFault
first_refused leaves_out [] = None
first_refused leaves_out (tune ∷ tunes) =
    if leaves_out then None else Some (BadTune tune.place tune.fault)

-- a book of these tunes
abbrev pub tunes_refused : Bool → ℕ → List BookTune → Option BookFault
tunes_refused leaves_out longest [] = Some NoTune
tunes_refused leaves_out longest (tune ∷ tunes) =
    first_refused leaves_out (bad_tunes longest (tune ∷ tunes))

-- why a book is refused, if it is
abbrev pub refusal : Adding → ℕ → List ℕ → Option BookFault
refusal how longest book =
    if is_book_too_long how book then Some BookTooLong
    else tunes_refused how.good longest (book_tunes how.carry book)
