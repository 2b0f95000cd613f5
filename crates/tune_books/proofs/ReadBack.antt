-- The tunes of a written book are the texts that were handed in.
use Rattle.std.proofs.Common.{◌≡◌, ◌≢◌, ℕ, suc, ◌+◌, ◌^◌, ◌<◌, ◌≤◌, true, false, not, ltb, List, [], ◌∷◌, ◌++◌, length, map, get_or, Ok, refl, ap, sym}
use Rattle.std.proofs.Common.{◌∙◌, subst, arith, inl, append_assoc, append-nil}
use Rattle.std.specs.Prelude.{codes, decimal}
use Rattle.std.specs.List.{AllByRecursion}
use Rattle.std.proofs.lemmas.Bool.{ne_eqb, le-ltb, or_parts, cond_both}
use Rattle.std.proofs.lemmas.Fmt.{decimal_is_IsNumeral}
use Rattle.std.proofs.lemmas.Str.Parse.{digit_from_value}
use Rattle.std.specs.Str.Parse.{AllDigits}
use Rattle.abc_fields.specs.Bytes.{line_feed}
use Rattle.abc_fields.specs.Limits.{longest_book}
use Rattle.abc_fields.specs.Lines.{lines_of, has_no_ending, ends_line}
use Rattle.abc_fields.specs.Tunes.{is_empty_line, is_tune_start, is_key_line, tune_run, tune_runs, joined, has_key, IsTuneLine, IsTuneText}
use Rattle.abc_fields.specs.FileHeaders.{block_of, file_header, before_key, with_header}
use Rattle.abc_fields.specs.Books.{whole_runs, book_runs, runs_answer, book_of_runs}
use Rattle.abc_fields.proofs.LineLaw.{pieces_of_line}
use Rattle.tune_books.specs.WrittenBooks.{written_tunes, written_book, places_from, written_set}
use Rattle.tune_books.specs.ReadBack.{GivesBack}

-- BYTES THAT END NO LINE
plain_byte : (c : ℕ) → 14 ≤ c → not (ends_line c) ≡ true
plain_byte c above = rw (ne_eqb c 10 (λ e. omega arith), ne_eqb c 13 (λ e. omega arith)) refl

digits_plain : (digits : List ℕ) → AllDigits 10 digits → has_no_ending digits ≡ true
digits_plain [] all = refl
digits_plain (c ∷ digits) all = rw (plain_byte c (omega (arith, digit_from_value c all.0))) (digits_plain digits all.1)

number_plain : (number : ℕ) → number < 2 ^ 64 → has_no_ending (codes "X:" ++ decimal number) ≡ true
number_plain number small = digits_plain (decimal number) (decimal_is_IsNumeral number (omega arith)).0.1

-- LINES
-- a plain line and its line feed
line_first : (line rest : List ℕ) → has_no_ending line ≡ true → lines_of (line ++ (line_feed ∷ rest)) ≡ line ∷ lines_of rest
line_first line rest plain = ap (map (λ p. p.content)) (pieces_of_line line (line_feed ∷ []) rest plain (inl refl))

lines_of_joined : (lines : List (List ℕ)) (rest : List ℕ) → AllByRecursion IsTuneLine lines → lines_of (joined lines ++ rest) ≡ lines ++ lines_of rest
lines_of_joined [] rest each = refl
lines_of_joined (line ∷ lines) rest each =
    ap lines_of (append_assoc (line ++ line_feed ∷ []) (joined lines) rest ∙ append_assoc line (line_feed ∷ []) (joined lines ++ rest))
    ∙ line_first line (joined lines ++ rest) each.0.plain
    ∙ ap (λ ls. line ∷ ls) (lines_of_joined lines rest each.1)

lines_again : (lines : List (List ℕ)) → AllByRecursion IsTuneLine lines → lines_of (joined lines) ≡ lines
lines_again lines each = ap lines_of (sym (append-nil (joined lines))) ∙ lines_of_joined lines [] each ∙ append-nil lines

-- what the lines of a tune text are
record TextLines (text : List ℕ) : Type 0 where
  again : joined (lines_of text) ≡ text
  each : AllByRecursion IsTuneLine (lines_of text)
  keyed : has_key (lines_of text) ≡ true

text_lines : (text : List ℕ) → IsTuneText text → TextLines text
text_lines text is =
    let back = lines_again is.lines is.each in
    subst TextLines is.whole record { again = ap joined back; each = rw back is.each; keyed = ap has_key back ∙ is.key }

lines_of_text : (text rest : List ℕ) → IsTuneText text → lines_of (text ++ rest) ≡ lines_of text ++ lines_of rest
lines_of_text text rest is =
    let lines = text_lines text is in
    ap (λ t. lines_of (t ++ rest)) (sym lines.again) ∙ lines_of_joined (lines_of text) rest lines.each

-- THE LINES OF A WRITTEN BOOK
abbrev book_lines : List ℕ → List (List ℕ) → List (List ℕ)
book_lines [] texts = []
book_lines (number ∷ numbers) [] = []
book_lines (number ∷ numbers) (text ∷ texts) = [] ∷ ((codes "X:" ++ decimal number) ∷ (lines_of text ++ book_lines numbers texts))

abbrev pub Small : List ℕ → Type 0
Small numbers = AllByRecursion (λ n. n < 2 ^ 64) numbers

tunes_lines : (numbers : List ℕ) (texts : List (List ℕ)) → Small numbers → AllByRecursion IsTuneText texts
    → lines_of (written_tunes numbers texts) ≡ book_lines numbers texts
tunes_lines [] texts small each = refl
tunes_lines (number ∷ numbers) [] small each = refl
tunes_lines (number ∷ numbers) (text ∷ texts) small each =
    let rest = written_tunes numbers texts in
    let grouped : written_tunes (number ∷ numbers) (text ∷ texts) ≡ codes "\n" ++ ((codes "X:" ++ decimal number) ++ (line_feed ∷
    (text ++ rest))) = simp append_assoc in
    ap lines_of grouped
    ∙ line_first [] ((codes "X:" ++ decimal number) ++ (line_feed ∷ (text ++ rest))) refl
    ∙ ap (λ ls. [] ∷ ls) (line_first (codes "X:" ++ decimal number) (text ++ rest) (number_plain number small.0)
    ∙ ap (λ ls. (codes "X:" ++ decimal number) ∷ ls) (lines_of_text text rest each.0
    ∙ ap (λ ls. lines_of text ++ ls) (tunes_lines numbers texts small.1 each.1)))

-- TUNES OF LINES
run_append : (lines rest : List (List ℕ)) → AllByRecursion IsTuneLine lines → tune_run (lines ++ rest) ≡ lines ++ tune_run rest
run_append [] rest each = refl
run_append (line ∷ lines) rest each = rw each.0.inside (ap (λ ls. line ∷ ls) (run_append lines rest each.1))

runs_append : (lines rest : List (List ℕ)) → AllByRecursion IsTuneLine lines → tune_runs (lines ++ rest) ≡ tune_runs rest
runs_append [] rest each = refl
runs_append (line ∷ lines) rest each = rw (or_parts (is_empty_line line) (is_tune_start line) each.0.inside).1 (runs_append lines rest each.1)

no_run : (numbers : List ℕ) (texts : List (List ℕ)) → tune_run (book_lines numbers texts) ≡ []
no_run [] texts = refl
no_run (number ∷ numbers) [] = refl
no_run (number ∷ numbers) (text ∷ texts) = refl

no_block : (numbers : List ℕ) (texts : List (List ℕ)) → block_of (book_lines numbers texts) ≡ []
no_block [] texts = refl
no_block (number ∷ numbers) [] = refl
no_block (number ∷ numbers) (text ∷ texts) = refl

-- the tunes of the lines of a written book are the lines of the texts
runs_of_book : (numbers : List ℕ) (texts : List (List ℕ)) → length numbers ≡ length texts → AllByRecursion IsTuneText texts
    → tune_runs (book_lines numbers texts) ≡ map lines_of texts
runs_of_book [] [] same each = refl
runs_of_book [] (text ∷ texts) same each = absurd (omega arith)
runs_of_book (number ∷ numbers) [] same each = absurd (omega arith)
runs_of_book (number ∷ numbers) (text ∷ texts) same each =
    let lines = text_lines text each.0 in
    let rest = book_lines numbers texts in
    let run : tune_run (lines_of text ++ rest) ≡ lines_of text = run_append (lines_of text) rest lines.each
    ∙ ap (λ ls. lines_of text ++ ls) (no_run numbers texts) ∙ append-nil (lines_of text) in
    let later : tune_runs (lines_of text ++ rest) ≡ map lines_of texts = runs_append (lines_of text) rest lines.each
    ∙ runs_of_book numbers texts (omega arith) each.1 in
    rw (run, later) refl

-- THE FILE HEADER
-- no line is put before the key
none_before_key : (lines : List (List ℕ)) → before_key [] lines ≡ lines
none_before_key [] = refl
none_before_key (line ∷ lines) = cond_both (is_key_line line) _ _ (λ ls. ls ≡ line ∷ lines) (λ is. refl) (λ no. ap (λ ls. line ∷ ls) (none_before_key lines))

-- each tune stays as it is, where no line is taken over
abbrev KeepsRuns : List (List ℕ) → Type 0
KeepsRuns header = (run : List (List ℕ)) → with_header header run ≡ run

map_keeps : (header : List (List ℕ)) (runs : List (List (List ℕ))) → KeepsRuns header → map (with_header header) runs ≡ runs
map_keeps header [] keeps = refl
map_keeps header (run ∷ runs) keeps = rw (keeps run, map_keeps header runs keeps) refl

joined_again : (texts : List (List ℕ)) → AllByRecursion IsTuneText texts → map joined (map lines_of texts) ≡ texts
joined_again [] each = refl
joined_again (text ∷ texts) each = rw ((text_lines text each.0).again, joined_again texts each.1) refl

header_keeps : KeepsRuns (codes "%abc-2.1" ∷ [])
header_keeps run = none_before_key run

-- BOOKS
runs_of_written : (numbers : List ℕ) (texts : List (List ℕ)) → length numbers ≡ length texts → Small numbers → AllByRecursion IsTuneText texts
    → book_runs (written_book numbers texts) ≡ map lines_of texts
runs_of_written numbers texts same small each =
    let lines : lines_of (written_book numbers texts) ≡ codes "%abc-2.1" ∷ book_lines numbers texts =
    line_first (codes "%abc-2.1") (written_tunes numbers texts) refl ∙ ap (λ ls. codes "%abc-2.1" ∷ ls) (tunes_lines numbers texts small each) in
    let header : file_header (codes "%abc-2.1" ∷ book_lines numbers texts) ≡ codes "%abc-2.1" ∷ [] = rw (no_block numbers texts) refl in
    ap whole_runs lines ∙ ap (λ h. map (with_header h) (tune_runs (book_lines numbers texts))) header
    ∙ map_keeps (codes "%abc-2.1" ∷ []) (tune_runs (book_lines numbers texts)) header_keeps ∙ runs_of_book numbers texts same each

-- THE LAW
answer_of : (longest place : ℕ) (texts : List (List ℕ)) → AllByRecursion IsTuneText texts → AllByRecursion (λ text. length text ≤ longest) texts
    → runs_answer longest place (map lines_of texts) ≡ Ok texts
answer_of longest place [] each fits = refl
answer_of longest place (text ∷ texts) each fits =
    let lines = text_lines text each.0 in
    rw (lines.keyed, lines.again, le-ltb longest (length text) fits.0, answer_of longest (place + 1) texts each.1 fits.1) refl

some_answer : (longest : ℕ) (texts : List (List ℕ)) → texts ≢ [] → runs_answer longest 1 (map lines_of texts) ≡ book_of_runs longest (map lines_of texts)
some_answer longest [] some = absurd (some refl)
some_answer longest (text ∷ texts) some = refl

-- a book whose tunes are the lines of these texts gives them back
gives_back : (book : List ℕ) (texts : List (List ℕ)) → book_runs book ≡ map lines_of texts → AllByRecursion IsTuneText texts → GivesBack book texts
gives_back book texts runs each = record {
  tunes = ap (map joined) runs ∙ joined_again texts each;
  read = λ longest some fits short.
      let long : ltb longest_book (length book) ≡ false = le-ltb longest_book (length book) fits in
      rw (long, runs) (sym (some_answer longest texts some) ∙ answer_of longest 1 texts each short);
}

pub book_gives_back : (numbers : List ℕ) (texts : List (List ℕ)) → length numbers ≡ length texts → Small numbers → AllByRecursion IsTuneText texts
    → GivesBack (written_book numbers texts) texts
book_gives_back numbers texts same small each = gives_back (written_book numbers texts) texts (runs_of_written numbers texts same small each) each

-- SETS
places_small : (place : ℕ) (texts : List (List ℕ)) → place + length texts ≤ 2 ^ 64 → Small (places_from place texts)
places_small place [] few = tt
places_small place (text ∷ texts) few = (omega arith, places_small (place + 1) texts (omega arith))

places_length : (place : ℕ) (texts : List (List ℕ)) → length (places_from place texts) ≡ length texts
places_length place [] = refl
places_length place (text ∷ texts) = omega (arith, places_length (place + 1) texts)

runs_of_set : (name : List ℕ) (texts : List (List ℕ)) → has_no_ending name ≡ true → length texts < 2 ^ 64 → AllByRecursion IsTuneText texts
    → book_runs (written_set name texts) ≡ map lines_of texts
runs_of_set name texts plain few each =
    let numbers = places_from 1 texts in
    let rest = written_tunes numbers texts in
    let named = codes "% set " ++ name in
    let grouped : written_set name texts ≡ codes "%abc-2.1" ++ (line_feed ∷ (named ++ (line_feed ∷ rest))) =
    ap (λ t. codes "%abc-2.1" ++ (line_feed ∷ (codes "% set " ++ t))) (append_assoc name (line_feed ∷ []) rest) in
    let lines : lines_of (written_set name texts) ≡ codes "%abc-2.1" ∷ (named ∷ book_lines numbers texts) =
    ap lines_of grouped ∙ line_first (codes "%abc-2.1") (named ++ (line_feed ∷ rest)) refl
    ∙ ap (λ ls. codes "%abc-2.1" ∷ ls)
    (line_first named rest plain ∙ ap (λ ls. named ∷ ls) (tunes_lines numbers texts (places_small 1 texts (omega arith)) each)) in
    let header : file_header (codes "%abc-2.1" ∷ (named ∷ book_lines numbers texts)) ≡ codes "%abc-2.1" ∷ (named ∷ []) = rw (no_block numbers texts) refl in
    ap whole_runs lines ∙ ap (λ h. map (with_header h) (tune_runs (book_lines numbers texts))) header
    ∙ map_keeps (codes "%abc-2.1" ∷ (named ∷ [])) (tune_runs (book_lines numbers texts)) (λ run. none_before_key run)
    ∙ runs_of_book numbers texts (places_length 1 texts) each

pub set_gives_back : (name : List ℕ) (texts : List (List ℕ)) → has_no_ending name ≡ true → length texts < 2 ^ 64 → AllByRecursion IsTuneText texts
    → GivesBack (written_set name texts) texts
set_gives_back name texts plain few each = gives_back (written_set name texts) texts (runs_of_set name texts plain few each) each

-- numbers of 32 bits are small
pub numbers_small : (numbers : List ℕ) → ((i : ℕ) → get_or numbers i 0 < 2 ^ 32) → Small numbers
numbers_small [] narrow = tt
numbers_small (number ∷ numbers) narrow = (omega (arith, narrow 0), numbers_small numbers (λ i. narrow (suc i)))
