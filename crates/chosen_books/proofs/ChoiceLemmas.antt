-- The good tunes of a book and the bad ones.
use Rattle.std.proofs.Common.{◌≡◌, ℕ, ◌+◌, ◌<◌, Bool, true, false, cond, List, [], ◌∷◌, length, Option, Some, None}
use Rattle.std.proofs.Common.{refl, ap, sym, ◌∙◌, arith}
use Rattle.std.proofs.lemmas.Bool.{cond_both}
use Rattle.std.proofs.lemmas.List.{length-map}
use Rattle.abc_fields.specs.Books.{book_runs}
use Rattle.abc_fields.specs.FileHeaders.{file_header, with_header}
use Rattle.desk_terms.specs.declared.adding.Adding.{Adding}
use Rattle.told_books.specs.Fates.{book_lines, fates_of}
use Rattle.told_books.proofs.KeptLaw.{fates_length}
use Rattle.chosen_books.specs.KnownTexts.{is_known, with_text_sum}
use Rattle.chosen_books.specs.ChosenTunes.{chosen_tunes, new_tunes, texts_of}
use Rattle.chosen_books.specs.Inside.WrittenParts.{TextsFit}
use Rattle.chosen_books.proofs.FrontLaw.{has_none}
use Rattle.chosen_books.specs.BookTunes.{book_tunes, nothing_passed}
use Rattle.abc_fields.specs.Tunes.{is_tune_start, tune_run, tune_runs}
use Rattle.abc_fields.specs.declared.book.BookFault.TheVariants.{NoTune}
use Rattle.abc_fields.specs.declared.book.TuneFault.{TuneFault}
use Rattle.told_books.specs.ToldTunes.{fault_of_tune}
use Rattle.told_books.specs.declared.fates.Fate.{Fate}
use Rattle.chosen_books.specs.BookTunes.{BookTune, Passed, behind_line, behind_start, is_carried_between, tune_here, book_tunes_from}
use Rattle.chosen_books.specs.ChosenTunes.{with_left_out, bad_tunes, first_refused, good_or, good_tunes, tunes_refused}
use Rattle.chosen_books.specs.declared.found_tunes.GoodTune.{GoodTune}
use Rattle.chosen_books.specs.declared.found_tunes.LeftOut.{LeftOut}

-- each tune is good or bad
one_of : (fault : Option TuneFault) (tune : BookTune) (good : List GoodTune) (bad : List LeftOut) (n : ℕ) → length good + length bad ≡ n
    → length (good_or fault tune good) + length (with_left_out fault tune bad) ≡ n + 1
one_of None tune good bad n e = omega arith
one_of (Some fault) tune good bad n e = omega arith

pub all_found : (longest : ℕ) (tunes : List BookTune) → length (good_tunes longest tunes) + length (bad_tunes longest tunes) ≡ length tunes
all_found longest [] = refl
all_found longest (tune ∷ tunes) =
    omega (arith, one_of (fault_of_tune longest tune.lines) tune (good_tunes longest tunes) (bad_tunes longest tunes) (length tunes) (all_found longest tunes))

-- why a book of some tunes is refused
pub refused_some : (leaves_out : Bool) (longest : ℕ) (tunes : List BookTune) (bad : List LeftOut) → bad_tunes longest tunes ≡ bad → 0 < length tunes
    → tunes_refused leaves_out longest tunes ≡ first_refused leaves_out bad
refused_some leaves_out longest [] bad e some = absurd (omega arith)
refused_some leaves_out longest (tune ∷ tunes) bad e some = ap (first_refused leaves_out) e

pub refused_none : (leaves_out : Bool) (longest : ℕ) (tunes : List BookTune) → length tunes ≡ 0 → tunes_refused leaves_out longest tunes ≡ Some NoTune
refused_none leaves_out longest [] none = refl
refused_none leaves_out longest (tune ∷ tunes) none = absurd (omega arith)

-- HOW MANY TUNES
pub as_many : (carry : Bool) (header : List (List ℕ)) (at : Passed) (fates : List Fate) (lines : List (List ℕ)) → length fates ≡ length lines
    → length (book_tunes_from carry header at fates lines) ≡ length (tune_runs lines)
as_many carry header at [] [] same = refl
as_many carry header at [] (line ∷ lines) same = absurd (omega arith)
as_many carry header at (fate ∷ fates) [] same = absurd (omega arith)
as_many carry header at (fate ∷ fates) (line ∷ lines) same =
    by (as_many carry header (behind_start at) fates lines (omega arith))
    (as_many carry header (behind_line (is_carried_between carry fate line) line at) fates lines (omega arith)) (is_tune_start line)
  where
    by : length (book_tunes_from carry header (behind_start at) fates lines) ≡ length (tune_runs lines)
        → length (book_tunes_from carry header (behind_line (is_carried_between carry fate line) line at) fates lines) ≡ length (tune_runs lines)
        → (b : Bool) → length (cond b (tune_here header at lines ∷ book_tunes_from carry header (behind_start at) fates lines)
        (book_tunes_from carry header (behind_line (is_carried_between carry fate line) line at) fates lines))
        ≡ length (cond b (tune_run lines ∷ tune_runs lines) (tune_runs lines))
    by start other true = omega (arith, start)
    by start other false = other

-- of a book there are as many tunes as it has
pub all_tunes : (carry : Bool) (book : List ℕ) → length (book_tunes carry book) ≡ length (book_runs book)
all_tunes carry book =
    let lines = book_lines book in
    as_many carry (file_header lines) nothing_passed (fates_of lines) lines (fates_length lines)
    ∙ sym (length-map (tune_runs lines) (with_header (file_header lines)))

-- TEXTS THAT FIT
fit_step : (longest : ℕ) (fault : Option TuneFault) (tune : BookTune) (later : List GoodTune) → fault_of_tune longest tune.lines ≡ fault
    → TextsFit longest (texts_of later) → TextsFit longest (texts_of (good_or fault tune later))
fit_step longest None tune later is fit = ((has_none longest tune.lines is).fits, fit)
fit_step longest (Some fault) tune later is fit = fit

good_fit : (longest : ℕ) (tunes : List BookTune) → TextsFit longest (texts_of (good_tunes longest tunes))
good_fit longest [] = tt
good_fit longest (tune ∷ tunes) =
    fit_step longest (fault_of_tune longest tune.lines) tune (good_tunes longest tunes) refl (good_fit longest tunes)

new_fit : (longest : ℕ) (sums : List (List ℕ)) (tunes : List GoodTune) → TextsFit longest (texts_of tunes) → TextsFit longest (texts_of (new_tunes sums tunes))
new_fit longest sums [] fit = tt
new_fit longest sums (tune ∷ tunes) fit =
    let later = new_fit longest (with_text_sum sums tune.text) tunes fit.1 in
    cond_both (is_known sums tune.text) (new_tunes (with_text_sum sums tune.text) tunes) (tune ∷ new_tunes (with_text_sum sums tune.text) tunes)
    (λ ts. TextsFit longest (texts_of ts)) (λ known. later) (λ new. (fit.0, later))

-- the texts that are taken in fit
pub chosen_fit : (how : Adding) (longest : ℕ) (sums : List (List ℕ)) (book : List ℕ) → TextsFit longest (texts_of (chosen_tunes how longest sums book))
chosen_fit how longest sums book =
    let good = good_tunes longest (book_tunes how.carry book) in
    let fit = good_fit longest (book_tunes how.carry book) in
    cond_both how.only_new (new_tunes sums good) good (λ ts. TextsFit longest (texts_of ts)) (λ new. new_fit longest sums good fit) (λ all. fit)
