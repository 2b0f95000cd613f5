-- What is told of the tunes of a book is the answer of its import.
use Rattle.std.proofs.Common.{◌≡◌, ℕ, ◌+◌, Bool, true, false, cond, not, List, [], ◌∷◌, length, map, refl, ap, sym, ◌∙◌, arith}
use Rattle.std.proofs.Common.{Option, Some, None, Ok, Err}
use Rattle.std.specs.Prelude.{MatchOption, nat_lt, count_by}
use Rattle.std.proofs.lemmas.List.Sums.{sum_by-cons}
use Rattle.abc_fields.specs.Tunes.{is_tune_start, tune_run, tune_runs, has_key, joined}
use Rattle.abc_fields.specs.FileHeaders.{file_header, with_header}
use Rattle.abc_fields.specs.Books.{Texts, before_texts, runs_answer, book_of_runs, book_answer, book_runs, tune_texts}
use Rattle.abc_fields.specs.Limits.{longest_book}
use Rattle.abc_fields.specs.declared.book.BookFault.{BookFault}
use Rattle.abc_fields.specs.declared.book.BookFault.TheVariants.{BookTooLong, BadTune}
use Rattle.abc_fields.specs.declared.book.TuneFault.{TuneFault}
use Rattle.abc_fields.specs.declared.book.TuneFault.TheVariants.{NoKey, TooLong}
use Rattle.told_books.specs.ToldTunes.{fault_of_tune, told_tunes_from, bad_or, first_bad, book_fault}
use Rattle.told_books.specs.Fates.{book_lines, is_dropped}
use Rattle.told_books.specs.FateLines.{dropped_from, dropped_or, DroppedRow}
use Rattle.told_books.specs.declared.fates.Fate.{Fate}
use Rattle.told_books.specs.declared.fates.Fate.TheVariants.{Kept, Carried, Blank, Version, Dropped}
use Rattle.told_books.specs.declared.tunes.ToldTune.{ToldTune}

-- EACH TUNE
-- the faults of tunes
abbrev pub faults : List ToldTune → List (Option TuneFault)
faults tunes = map (λ tune. tune.fault) tunes

faults_step : (longest number : ℕ) (header : List (List ℕ)) (line : List ℕ) (lines : List (List ℕ)) (is : Bool)
    → faults (told_tunes_from longest header (number + 1) lines) ≡ map (fault_of_tune longest) (map (with_header header) (tune_runs lines))
    → faults (cond is
    (record { line = number; fault = fault_of_tune longest (with_header header (tune_run lines)) } ∷ told_tunes_from longest header (number + 1) lines)
    (told_tunes_from longest header (number + 1) lines))
    ≡ map (fault_of_tune longest) (map (with_header header) (cond is (tune_run lines ∷ tune_runs lines) (tune_runs lines)))
faults_step longest number header line lines true later = ap (λ fs. fault_of_tune longest (with_header header (tune_run lines)) ∷ fs) later
faults_step longest number header line lines false later = later

faults_from : (longest number : ℕ) (header lines : List (List ℕ))
    → faults (told_tunes_from longest header number lines) ≡ map (fault_of_tune longest) (map (with_header header) (tune_runs lines))
faults_from longest number header [] = refl
faults_from longest number header (line ∷ lines) =
    faults_step longest number header line lines (is_tune_start line) (faults_from longest (number + 1) header lines)

-- the faults of the tunes of a book are those of the tunes with what they carry
pub book_faults : (longest : ℕ) (book : List ℕ)
    → faults (told_tunes_from longest (file_header (book_lines book)) 1 (book_lines book)) ≡ map (fault_of_tune longest) (book_runs book)
book_faults longest book = faults_from longest 1 (file_header (book_lines book)) (book_lines book)

-- THE ANSWER
-- a fault is the answer, and with none the texts are
abbrev pub Answers : List (List (List ℕ)) → Texts → Option BookFault → Type 0
Answers runs answer fault = MatchOption fault (answer ≡ Ok (map joined runs)) (λ f. answer ≡ Err f)

good_more : (run : List (List ℕ)) (runs : List (List (List ℕ))) (later : Texts) (fault : Option BookFault) → Answers runs later fault
    → Answers (run ∷ runs) (before_texts (joined run ∷ []) later) fault
good_more run runs later None e = ap (before_texts (joined run ∷ [])) e
good_more run runs later (Some fault) e = ap (before_texts (joined run ∷ [])) e

tune_step : (longest place : ℕ) (run : List (List ℕ)) (runs : List (List (List ℕ))) (keyed long : Bool) (later : Texts) (fault : Option BookFault)
    → Answers runs later fault
    → Answers (run ∷ runs) (cond (not keyed) (Err (BadTune place NoKey)) (cond long (Err (BadTune place TooLong)) (before_texts (joined run ∷ []) later)))
    (bad_or place (cond (not keyed) (Some NoKey) (cond long (Some TooLong) None)) fault)
tune_step longest place run runs false long later fault is = refl
tune_step longest place run runs true true later fault is = refl
tune_step longest place run runs true false later fault is = good_more run runs later fault is

same_first : (a b : Option TuneFault) (later others : List (Option TuneFault)) → a ∷ later ≡ b ∷ others → a ≡ b
same_first a b later others e = cc

same_rest : (a b : Option TuneFault) (later others : List (Option TuneFault)) → a ∷ later ≡ b ∷ others → later ≡ others
same_rest a b later others e = cc

runs_told : (longest place : ℕ) (tunes : List ToldTune) (runs : List (List (List ℕ))) → faults tunes ≡ map (fault_of_tune longest) runs
    → Answers runs (runs_answer longest place runs) (first_bad place tunes)
runs_told longest place [] [] e = refl
runs_told longest place [] (run ∷ runs) e = absurd (let h : [] ≡ fault_of_tune longest run ∷ map (fault_of_tune longest) runs = e in cc)
runs_told longest place (tune ∷ tunes) [] e = absurd (let h : tune.fault ∷ faults tunes ≡ [] = e in cc)
runs_told longest place (tune ∷ tunes) (run ∷ runs) e =
    let first = same_first tune.fault (fault_of_tune longest run) (faults tunes) (map (fault_of_tune longest) runs) e in
    let later = runs_told longest (place + 1) tunes runs
    (same_rest tune.fault (fault_of_tune longest run) (faults tunes) (map (fault_of_tune longest) runs) e) in
    rw first (tune_step longest place run runs (has_key run) (nat_lt longest (length (joined run))) (runs_answer longest (place + 1) runs)
    (first_bad (place + 1) tunes) later)

whole_told : (longest : ℕ) (tunes : List ToldTune) (runs : List (List (List ℕ))) → faults tunes ≡ map (fault_of_tune longest) runs
    → Answers runs (book_of_runs longest runs) (book_fault false tunes)
whole_told longest [] [] e = refl
whole_told longest [] (run ∷ runs) e = absurd (let h : [] ≡ fault_of_tune longest run ∷ map (fault_of_tune longest) runs = e in cc)
whole_told longest (tune ∷ tunes) [] e = absurd (let h : tune.fault ∷ faults tunes ≡ [] = e in cc)
whole_told longest (tune ∷ tunes) (run ∷ runs) e = runs_told longest 1 (tune ∷ tunes) (run ∷ runs) e

book_told_if : (longest : ℕ) (tunes : List ToldTune) (runs : List (List (List ℕ))) (long : Bool) → faults tunes ≡ map (fault_of_tune longest) runs
    → Answers runs (cond long (Err BookTooLong) (book_of_runs longest runs)) (book_fault long tunes)
book_told_if longest tunes runs true e = refl
book_told_if longest tunes runs false e = whole_told longest tunes runs e

-- what is told of a book is the answer of its import
pub book_told : (longest : ℕ) (book : List ℕ) (tunes : List ToldTune) → faults tunes ≡ map (fault_of_tune longest) (book_runs book)
    → MatchOption (book_fault (nat_lt longest_book (length book)) tunes) (book_answer longest book ≡ Ok (tune_texts book))
    (λ fault. book_answer longest book ≡ Err fault)
book_told longest book tunes e = book_told_if longest tunes (book_runs book) (nat_lt longest_book (length book)) e

-- HOW MANY ARE LOST
dropped_one : (number : ℕ) (fate : Fate) (line : List ℕ) (later : List DroppedRow) (n : ℕ) → length later ≡ n
    → length (dropped_or number fate line later) ≡ cond (is_dropped fate) 1 0 + n
dropped_one number (Kept tune) line later n e = omega arith
dropped_one number Carried line later n e = omega arith
dropped_one number Blank line later n e = omega arith
dropped_one number Version line later n e = omega arith
dropped_one number (Dropped directive) line later n e = omega arith

-- as many lines are dropped as have such a fate
pub dropped_count : (number : ℕ) (fates : List Fate) (lines : List (List ℕ)) → length fates ≡ length lines
    → length (dropped_from number fates lines) ≡ count_by is_dropped fates
dropped_count number [] lines same = refl
dropped_count number (fate ∷ fates) [] same = absurd (omega arith)
dropped_count number (fate ∷ fates) (line ∷ lines) same =
    dropped_one number fate line (dropped_from (number + 1) fates lines) (count_by is_dropped fates) (dropped_count (number + 1) fates lines (omega arith))
    ∙ sym (sum_by-cons (λ f. cond (is_dropped f) 1 0) fate fates)
