-- The texts of a book's tunes are tune texts, and its answer is that of its tunes.
use Rattle.std.proofs.Common.{◌≡◌, ℕ, ◌+◌, ◌≤◌, Bool, true, false, cond, not, ltb, ◌||◌, List, [], ◌∷◌, ◌++◌, length, map, drop, Ok, Err}
use Rattle.std.proofs.Common.{refl, ap, sym, ◌∙◌, subst, arith, ◌⊎◌, inl, inr}
use Rattle.std.specs.Prelude.{IfOk}
use Rattle.std.specs.List.{AllByRecursion, list_all}
use Rattle.std.proofs.lemmas.List.{append_assoc, append-nil, length-append, length-map, length-drop}
use Rattle.std.proofs.lemmas.Bool.{le-ltb, ltb-false, cond_both, and_parts, not-true, or_from}
use Rattle.abc_fields.specs.Bytes.{byte_order_mark, begins_with}
use Rattle.abc_fields.specs.Lines.{Piece, Span, pieces_of, lines_of, spans_of, text_of, has_no_ending, ArePieces, IsEnding, IsUnended}
use Rattle.abc_fields.specs.LineKinds.{is_field_line, is_continuation, is_comment}
use Rattle.abc_fields.specs.Tunes.{is_key_line, is_tune_start, is_empty_line, ends_tune, tune_run, tune_runs, joined, has_key, IsTuneLine, IsTuneText}
use Rattle.abc_fields.specs.Tunes.{IsTextWithin}
use Rattle.abc_fields.specs.Fields.{header_of}
use Rattle.abc_fields.specs.FileHeaders.{block_of, first_block, file_header, is_header_line, rule_of, rule_below, carries, carried, has_letter, before_key}
use Rattle.abc_fields.specs.FileHeaders.{with_header}
use Rattle.abc_fields.specs.Books.{Texts, before_texts, tune_answer, runs_answer, book_answer, book_of_runs, whole_runs, book_runs, without_mark}
use Rattle.abc_fields.specs.Inside.LinesLeft.{contents_of, IsRestAfter}
use Rattle.abc_fields.specs.Inside.HeaderRows.{HeaderRow, header_rows, with_rows, runs_with, texts_with}
use Rattle.abc_fields.specs.Limits.{longest_book}
use Rattle.abc_fields.specs.declared.book.BookFault.{BookFault}
use Rattle.abc_fields.specs.declared.book.BookFault.TheVariants.{BookTooLong, BadTune, NoTune}
use Rattle.abc_fields.specs.declared.book.TuneFault.TheVariants.{NoKey, TooLong}
use Rattle.abc_fields.specs.declared.carry_rules.CarryRule.{CarryRule}
use Rattle.abc_fields.specs.declared.carry_rules.CarryRule.TheVariants.{Never}
use Rattle.abc_fields.proofs.LineLaw.{pieces_divide, ending_has_byte}
use Rattle.abc_fields.proofs.LineOffsets.{spans_have_lines}
use Rattle.abc_fields.proofs.RowLemmas.{whole_by_rows}
use Rattle.abc_fields.proofs.TuneLemmas.{runs_start, runs_other}

-- LINES
-- each of these lines is plain
abbrev pub AllPlain : List (List ℕ) → Type 0
AllPlain lines = AllByRecursion (λ line. has_no_ending line ≡ true) lines

contents_plain : (ps : List Piece) → ArePieces ps → AllPlain (map (λ p. p.content) ps)
contents_plain [] are = tt
contents_plain (p ∷ ps) are = (are.0.content, contents_plain ps are.1)

pub lines_plain : (text : List ℕ) → AllPlain (lines_of text)
lines_plain text = contents_plain (pieces_of text) (pieces_divide text).pieces

-- LENGTHS
-- the contents of pieces
abbrev lines_in : List Piece → List (List ℕ)
lines_in ps = map (λ p. p.content) ps

-- lines take up the bytes of their contents and one more each
joined-cons : (line : List ℕ) (lines : List (List ℕ)) → length (joined (line ∷ lines)) ≡ length line + 1 + length (joined lines)
joined-cons line lines = simp length-append (omega arith)

-- a piece goes before pieces whose lines gain at most one byte
piece_step : (p : Piece) (ps : List Piece) → IsEnding p.ending (text_of ps) ⊎ IsUnended p ps → length (joined (lines_in ps)) ≤ length (text_of ps) + 1
    → length (joined (lines_in (p ∷ ps))) ≤ length (text_of (p ∷ ps)) + 1
piece_step p ps (inl ends) later =
    let some = ending_has_byte p.ending (text_of ps) ends in
    omega (arith, joined-cons p.content (lines_in ps), length-append p.content (p.ending ++ text_of ps), length-append p.ending (text_of ps))
piece_step p ps (inr unended) later =
    rw (unended.last, unended.ending) (omega (arith, joined-cons p.content [], length-append p.content ([] ++ [])))

-- only the last piece may lack an ending, so its line alone may gain a byte by a line feed
pieces_length : (ps : List Piece) → ArePieces ps → length (joined (lines_in ps)) ≤ length (text_of ps) + 1
pieces_length [] are = omega arith
pieces_length (p ∷ ps) are = piece_step p ps are.0.ending (pieces_length ps are.1)

-- as lines that each end in a line feed, a text has at most one byte more
pub lines_length : (text : List ℕ) → length (joined (lines_of text)) ≤ length text + 1
lines_length text =
    let divided = pieces_divide text in
    omega (arith, pieces_length (pieces_of text) divided.pieces, ap length divided.whole)

-- a book without its mark is no longer
mark_length : (book : List ℕ) → length (without_mark book) ≤ length book
mark_length book = cond_both (begins_with book byte_order_mark) (drop (length byte_order_mark) book) book (λ text. length text ≤ length book)
    (λ marked. omega (arith, length-drop (length byte_order_mark) book)) (λ none. omega arith)

-- the lines of a book have room, where the book has
pub book_room : (book : List ℕ) → length book ≤ longest_book → length (joined (contents_of (spans_of (without_mark book)))) ≤ longest_book + 1
book_room book fits = rw (spans_have_lines (without_mark book)) (omega (arith, lines_length (without_mark book), mark_length book))

-- THE LINES OF TUNES
run_step : (line : List ℕ) (lines : List (List ℕ)) (ends : Bool) → ends_tune line ≡ ends → has_no_ending line ≡ true
    → AllByRecursion IsTuneLine (tune_run lines) → AllByRecursion IsTuneLine (cond ends [] (line ∷ tune_run lines))
run_step line lines true e plain later = tt
run_step line lines false e plain later = (record { plain = plain; inside = e }, later)

run_lines : (lines : List (List ℕ)) → AllPlain lines → AllByRecursion IsTuneLine (tune_run lines)
run_lines [] plain = tt
run_lines (line ∷ lines) plain = run_step line lines (ends_tune line) refl plain.0 (run_lines lines plain.1)

-- each line of each of these tunes may stand in a tune
abbrev pub TuneLines : List (List (List ℕ)) → Type 0
TuneLines runs = AllByRecursion (λ run. AllByRecursion IsTuneLine run) runs

runs_step : (lines : List (List ℕ)) (starts : Bool) → AllByRecursion IsTuneLine (tune_run lines) → TuneLines (tune_runs lines)
    → TuneLines (cond starts (tune_run lines ∷ tune_runs lines) (tune_runs lines))
runs_step lines true run later = (run, later)
runs_step lines false run later = later

runs_lines : (lines : List (List ℕ)) → AllPlain lines → TuneLines (tune_runs lines)
runs_lines [] plain = tt
runs_lines (line ∷ lines) plain = runs_step lines (is_tune_start line) (run_lines lines plain.1) (runs_lines lines plain.1)

-- THE LINES OF A FILE HEADER
-- a line of a block
record IsBlockLine (line : List ℕ) : Type 0 where
  plain : has_no_ending line ≡ true
  some : is_empty_line line ≡ false

block_lines : (lines : List (List ℕ)) → AllPlain lines → AllByRecursion IsBlockLine (block_of lines)
block_lines [] plain = tt
block_lines (line ∷ lines) plain = cond_both (is_empty_line line) [] (line ∷ block_of lines) (λ ls. AllByRecursion IsBlockLine ls)
    (λ empty. tt) (λ some. (record { plain = plain.0; some = some }, block_lines lines plain.1))

first_lines : (lines : List (List ℕ)) → AllPlain lines → AllByRecursion IsBlockLine (first_block lines)
first_lines [] plain = tt
first_lines (line ∷ lines) plain = cond_both (is_empty_line line) (first_block lines) (line ∷ block_of lines) (λ ls. AllByRecursion IsBlockLine ls)
    (λ empty. first_lines lines plain.1) (λ some. (record { plain = plain.0; some = some }, block_lines lines plain.1))

-- a line of a block that may stand in a file header may stand in a tune
header_line : (line : List ℕ) → IsBlockLine line → is_header_line line ≡ true → IsTuneLine line
header_line line is header =
    let parts = and_parts (not (is_tune_start line)) (is_field_line line || is_continuation line || is_comment line) header in
    record { plain = is.plain; inside = or_from (is_empty_line line) (is_tune_start line) is.some (not-true (is_tune_start line) parts.0) }

header_block : (block : List (List ℕ)) → AllByRecursion IsBlockLine block → list_all is_header_line block ≡ true → AllByRecursion IsTuneLine block
header_block [] each all = tt
header_block (line ∷ block) each all =
    let parts = and_parts (is_header_line line) (list_all is_header_line block) all in
    (header_line line each.0 parts.0, header_block block each.1 parts.1)

header_lines : (lines : List (List ℕ)) → AllPlain lines → AllByRecursion IsTuneLine (file_header lines)
header_lines lines plain = cond_both (list_all is_header_line (first_block lines)) (first_block lines) [] (λ ls. AllByRecursion IsTuneLine ls)
    (λ all. header_block (first_block lines) (first_lines lines plain) all) (λ none. tt)

carried_lines : (owns : ℕ → Bool) (above : CarryRule) (header : List (List ℕ)) → AllByRecursion IsTuneLine header
    → AllByRecursion IsTuneLine (carried owns above header)
carried_lines owns above [] each = tt
carried_lines owns above (line ∷ header) each =
    let later = carried_lines owns (rule_below above line) header each.1 in
    cond_both (carries owns (rule_of above line)) (line ∷ carried owns (rule_below above line) header) (carried owns (rule_below above line) header)
    (λ ls. AllByRecursion IsTuneLine ls) (λ is. (each.0, later)) (λ no. later)

all_append : (xs ys : List (List ℕ)) → AllByRecursion IsTuneLine xs → AllByRecursion IsTuneLine ys → AllByRecursion IsTuneLine (xs ++ ys)
all_append [] ys each more = more
all_append (x ∷ xs) ys each more = (each.0, all_append xs ys each.1 more)

before_lines : (put run : List (List ℕ)) → AllByRecursion IsTuneLine put → AllByRecursion IsTuneLine run → AllByRecursion IsTuneLine (before_key put run)
before_lines put [] each lines = tt
before_lines put (line ∷ run) each lines = cond_both (is_key_line line) (put ++ (line ∷ run)) (line ∷ before_key put run) (λ ls. AllByRecursion IsTuneLine ls)
    (λ is. all_append put (line ∷ run) each lines) (λ no. (lines.0, before_lines put run each lines.1))

with_lines : (header : List (List ℕ)) (runs : List (List (List ℕ))) → AllByRecursion IsTuneLine header → TuneLines runs
    → TuneLines (map (with_header header) runs)
with_lines header [] each lines = tt
with_lines header (run ∷ runs) each lines = (
  before_lines (carried (has_letter (header_of run)) Never header) run (carried_lines (has_letter (header_of run)) Never header each) lines.0,
  with_lines header runs each lines.1,
)

whole_lines : (lines : List (List ℕ)) → AllPlain lines → TuneLines (whole_runs lines)
whole_lines lines plain = with_lines (file_header lines) (tune_runs lines) (header_lines lines plain) (runs_lines lines plain)

-- TEXTS WITHIN A LENGTH
-- where the answer is texts, they are within the length
abbrev pub TextsWithin : ℕ → Texts → Type 0
TextsWithin longest answer = IfOk answer (λ texts. AllByRecursion (IsTextWithin longest) texts)

before_within : (longest : ℕ) (text : List ℕ) (later : Texts) → IsTextWithin longest text → TextsWithin longest later
    → TextsWithin longest (before_texts (text ∷ []) later)
before_within longest text (Ok texts) first h = (first, h)
before_within longest text (Err fault) first h = tt

tune_within : (longest place : ℕ) (run : List (List ℕ)) (keyed long : Bool) (later : Texts) → has_key run ≡ keyed → ltb longest (length (joined run)) ≡ long
    → AllByRecursion IsTuneLine run → TextsWithin longest later
    → TextsWithin longest (cond (not keyed) (Err (BadTune place NoKey)) (cond long (Err (BadTune place TooLong)) (before_texts (joined run ∷ []) later)))
tune_within longest place run false long later k l lines h = tt
tune_within longest place run true true later k l lines h = tt
tune_within longest place run true false later k l lines h =
    let text : IsTuneText (joined run) = record { lines = run; whole = refl; each = lines; key = k } in
    before_within longest (joined run) later record { tune_text = text; fits = ltb-false longest (length (joined run)) l } h

runs_within : (longest place : ℕ) (runs : List (List (List ℕ))) → TuneLines runs → TextsWithin longest (runs_answer longest place runs)
runs_within longest place [] h = tt
runs_within longest place (run ∷ runs) h =
    tune_within longest place run (has_key run) (ltb longest (length (joined run))) (runs_answer longest (place + 1) runs) refl refl h.0
    (runs_within longest (place + 1) runs h.1)

some_within : (longest : ℕ) (runs : List (List (List ℕ))) → TuneLines runs → TextsWithin longest (book_of_runs longest runs)
some_within longest [] h = tt
some_within longest (run ∷ runs) h = runs_within longest 1 (run ∷ runs) h

-- the texts of a book are tune texts within the length
pub book_within : (longest : ℕ) (book : List ℕ) → TextsWithin longest (book_answer longest book)
book_within longest book =
    cond_both (ltb longest_book (length book)) (Err BookTooLong) (book_of_runs longest (book_runs book)) (λ answer. TextsWithin longest answer)
    (λ long. tt) (λ short. some_within longest (book_runs book) (whole_lines (lines_of (without_mark book)) (lines_plain (without_mark book))))

-- the same of the texts that the answer is
pub texts_within : (longest : ℕ) (book : List ℕ) (texts : List (List ℕ)) → book_answer longest book ≡ Ok texts → AllByRecursion (IsTextWithin longest) texts
texts_within longest book texts e =
    let P : Texts → Type 0 = λ answer. TextsWithin longest answer in
    subst P e (book_within longest book)

-- a longer limit holds as well
pub within_more : (longest more : ℕ) (texts : List (List ℕ)) → longest ≤ more → AllByRecursion (IsTextWithin longest) texts
    → AllByRecursion (IsTextWithin more) texts
within_more longest more [] le each = tt
within_more longest more (text ∷ texts) le each =
    (record { tune_text = each.0.tune_text; fits = omega (arith, each.0.fits) }, within_more longest more texts le each.1)

-- THE WHOLE BOOK
-- a book of a good length is answered by its tunes
pub book_read : (longest : ℕ) (book : List ℕ) → length book ≤ longest_book → book_answer longest book ≡ book_of_runs longest (book_runs book)
book_read longest book l = rw (le-ltb longest_book (length book) l) refl

-- so is one with a tune
pub runs_some : (longest : ℕ) (runs : List (List (List ℕ))) → (length runs ≡ 0 → ⊥) → book_of_runs longest runs ≡ runs_answer longest 1 runs
runs_some longest [] some = absurd (some refl)
runs_some longest (run ∷ runs) some = refl

-- and one without
pub runs_none : (longest : ℕ) (runs : List (List (List ℕ))) → length runs ≡ 0 → book_of_runs longest runs ≡ Err NoTune
runs_none longest [] none = refl
runs_none longest (run ∷ runs) none = absurd (omega arith)

-- a fault of the tunes is one of the book
pub runs_err : (longest : ℕ) (runs : List (List (List ℕ))) (fault : BookFault) → runs_answer longest 1 runs ≡ Err fault → book_of_runs longest runs ≡ Err fault
runs_err longest [] fault e = cc
runs_err longest (run ∷ runs) fault e = e

-- TUNE BY TUNE
before_ok : (text : List ℕ) (later : Texts) (texts : List (List ℕ)) (rest : List (List ℕ)) → before_texts (text ∷ []) later ≡ Ok texts
    → ((found : List (List ℕ)) → later ≡ Ok found → found ≡ rest) → texts ≡ text ∷ rest
before_ok text (Ok found) texts rest e same = let same_rest = same found refl in cc
before_ok text (Err fault) texts rest e same = cc

tune_ok : (longest place : ℕ) (run : List (List ℕ)) (keyless long : Bool) (later : Texts) (texts rest : List (List ℕ))
    → cond keyless (Err (BadTune place NoKey)) (cond long (Err (BadTune place TooLong)) (before_texts (joined run ∷ []) later)) ≡ Ok texts
    → ((found : List (List ℕ)) → later ≡ Ok found → found ≡ rest) → texts ≡ joined run ∷ rest
tune_ok longest place run true long later texts rest e same = cc
tune_ok longest place run false true later texts rest e same = cc
tune_ok longest place run false false later texts rest e same = before_ok (joined run) later texts rest e same

-- the texts that an answer gives are those of the tunes
pub answer_texts : (longest place : ℕ) (runs : List (List (List ℕ))) (texts : List (List ℕ)) → runs_answer longest place runs ≡ Ok texts
    → texts ≡ map joined runs
answer_texts longest place [] texts e = cc
answer_texts longest place (run ∷ runs) texts e =
    tune_ok longest place run (not (has_key run)) (ltb longest (length (joined run))) (runs_answer longest (place + 1) runs) texts (map joined runs) e
    (answer_texts longest (place + 1) runs)

-- a good tune comes before the later ones
pub good_tune : (longest place : ℕ) (run : List (List ℕ)) (later : Texts) → has_key run ≡ true → length (joined run) ≤ longest
    → cond (not (has_key run)) (Err (BadTune place NoKey)) (cond (ltb longest (length (joined run))) (Err (BadTune place TooLong))
    (before_texts (joined run ∷ []) later))
    ≡ before_texts (joined run ∷ []) later
good_tune longest place run later keyed fits = rw (keyed, le-ltb longest (length (joined run)) fits) refl

pub before_before : (xs ys : List (List ℕ)) (later : Texts) → before_texts xs (before_texts ys later) ≡ before_texts (xs ++ ys) later
before_before xs ys (Ok texts) = ap (λ l. Ok l) (sym (append_assoc xs ys texts))
before_before xs ys (Err fault) = refl

pub before_none : (later : Texts) → later ≡ before_texts [] later
before_none (Ok texts) = refl
before_none (Err fault) = refl

-- READING TUNES
-- the tunes of a book by the rows of its file header
pub book_by_rows : (book : List ℕ) (rows : List HeaderRow) (front all : List Span) → front ≡ spans_of (without_mark book) → all ≡ spans_of (without_mark book)
    → rows ≡ header_rows (contents_of front) → runs_with rows (tune_runs (contents_of all)) ≡ book_runs book
book_by_rows book rows front all at_front at_all is =
    let lines : contents_of (spans_of (without_mark book)) ≡ lines_of (without_mark book) = spans_have_lines (without_mark book) in
    ap (λ rs. runs_with rs (tune_runs (contents_of all))) (is ∙ ap (λ spans. header_rows (contents_of spans)) at_front)
    ∙ ap (λ spans. runs_with (header_rows (contents_of (spans_of (without_mark book)))) (tune_runs (contents_of spans))) at_all
    ∙ ap (λ ls. runs_with (header_rows ls) (tune_runs ls)) lines
    ∙ whole_by_rows (lines_of (without_mark book))

-- so many texts are done, and the rest of the answer is that of the tunes left
pub record IsJudged (longest : ℕ) (rows : List HeaderRow) (whole : Texts) (count : ℕ) (left : List (List ℕ)) : Type 0 where
  pub done : List (List ℕ)
  pub counted : length done ≡ count
  pub answer : whole ≡ before_texts done (runs_answer longest (count + 1) (runs_with rows (tune_runs left)))

pub judged_start : (longest : ℕ) (rows : List HeaderRow) (lines : List (List ℕ))
    → IsJudged longest rows (runs_answer longest 1 (runs_with rows (tune_runs lines))) 0 lines
judged_start longest rows lines = record { done = []; counted = refl; answer = before_none _ }

-- a line that starts no tune
pub judged_other : (longest : ℕ) (rows : List HeaderRow) (whole : Texts) (count : ℕ) (old : List (List ℕ)) (line : List ℕ) (new : List (List ℕ))
    → IsJudged longest rows whole count old
    → old ≡ line ∷ new → is_tune_start line ≡ false → IsJudged longest rows whole count new
judged_other longest rows whole count old line new is step other =
    let runs : tune_runs old ≡ tune_runs new = ap tune_runs step ∙ runs_other line new other in
    record {
      done = is.done;
      counted = is.counted;
      answer = is.answer ∙ ap (λ rs. before_texts is.done (runs_answer longest (count + 1) (runs_with rows rs)))
          runs;
    }

-- a good tune
pub judged_more : (longest : ℕ) (rows : List HeaderRow) (whole : Texts) (count : ℕ) (old : List (List ℕ)) (line : List ℕ) (next new : List (List ℕ))
    → IsJudged longest rows whole count old
    → old ≡ line ∷ next → is_tune_start line ≡ true → IsRestAfter next new → has_key (with_rows rows (tune_run next)) ≡ true
    → length (joined (with_rows rows (tune_run next))) ≤ longest → IsJudged longest rows whole (count + 1) new
judged_more longest rows whole count old line next new is step starts rest keyed fits =
    let run = with_rows rows (tune_run next) in
    let runs : tune_runs old ≡ tune_run next ∷ tune_runs new = ap tune_runs step ∙ runs_start line next starts
    ∙ ap (λ rs. tune_run next ∷ rs) (sym rest.runs) in
    let later = runs_answer longest (count + 1 + 1) (runs_with rows (tune_runs new)) in
    record {
      done = is.done ++ joined run ∷ [];
      counted = omega (arith, length-append is.done (joined run ∷ []), is.counted);
      answer = is.answer ∙ ap (λ rs. before_texts is.done (runs_answer longest (count + 1) (runs_with rows rs))) runs
          ∙ ap (before_texts is.done) (good_tune longest (count + 1) run later keyed fits) ∙ before_before is.done (joined run ∷ []) later;
    }

-- a tune that is refused is the first
pub judged_bad : (longest : ℕ) (rows : List HeaderRow) (whole : Texts) (count : ℕ) (old : List (List ℕ)) (line : List ℕ) (next : List (List ℕ))
    (fault : BookFault) → IsJudged longest rows whole count old → old ≡ line ∷ next → is_tune_start line ≡ true
    → ((later : Texts) → tune_answer longest (count + 1) (has_key (with_rows rows (tune_run next))) (joined (with_rows rows (tune_run next))) later ≡ Err fault)
    → whole ≡ Err fault
judged_bad longest rows whole count old line next fault is step starts refused =
    let runs : tune_runs old ≡ tune_run next ∷ tune_runs next = ap tune_runs step ∙ runs_start line next starts in
    is.answer ∙ ap (λ rs. before_texts is.done (runs_answer longest (count + 1) (runs_with rows rs))) runs
    ∙ ap (before_texts is.done) (refused (runs_answer longest (count + 1 + 1) (runs_with rows (tune_runs next))))

-- no line is left
pub judged_end : (longest : ℕ) (rows : List HeaderRow) (runs : List (List (List ℕ))) (count : ℕ) (left : List (List ℕ))
    → IsJudged longest rows (runs_answer longest 1 runs) count left → left ≡ []
    → (runs_answer longest 1 runs ≡ Ok (map joined runs)) × (count ≡ length runs)
judged_end longest rows runs count left is none =
    let ends : runs_answer longest 1 runs ≡ Ok is.done = is.answer
    ∙ ap (λ ls. before_texts is.done (runs_answer longest (count + 1) (runs_with rows (tune_runs ls)))) none
    ∙ ap (λ ts. Ok ts) (append-nil is.done) in
    let texts = answer_texts longest 1 runs is.done ends in
    (ends ∙ ap (λ ts. Ok ts) texts, sym is.counted ∙ ap length texts ∙ length-map runs joined)

-- the texts of a book whose tunes are all good
pub record IsGoodBook (longest : ℕ) (book : List ℕ) (count : ℕ) (texts : List (List ℕ)) : Type 0 where
  pub answer : book_answer longest book ≡ Ok texts
  pub counted : count ≡ length texts
  pub within : AllByRecursion (IsTextWithin longest) texts

pub good_book : (longest : ℕ) (book : List ℕ) (rows : List HeaderRow) (front all whole : List Span) (count : ℕ) → front ≡ spans_of (without_mark book)
    → all ≡ whole → whole ≡ spans_of (without_mark book) → rows ≡ header_rows (contents_of front) → length book ≤ longest_book
    → (runs_answer longest 1 (runs_with rows (tune_runs (contents_of all))) ≡ Ok (map joined (runs_with rows (tune_runs (contents_of all)))))
    × (count ≡ length (runs_with rows (tune_runs (contents_of all)))) → (count ≡ 0 → ⊥)
    → IsGoodBook longest book count (texts_with rows (tune_runs (contents_of whole)))
good_book longest book rows front all whole count at_front at_all at_whole is fits judged some =
    let runs = runs_with rows (tune_runs (contents_of all)) in
    let same = book_by_rows book rows front all at_front (at_all ∙ at_whole) is in
    let counted : (length (book_runs book) ≡ 0) → ⊥ = λ none. some (judged.1 ∙ ap length same ∙ none) in
    let move : map joined runs ≡ texts_with rows (tune_runs (contents_of whole)) = ap (λ spans. texts_with rows (tune_runs (contents_of spans))) at_all in
    let answer : book_answer longest book ≡ Ok (texts_with rows (tune_runs (contents_of whole))) =
    book_read longest book fits ∙ runs_some longest (book_runs book) counted ∙ ap (runs_answer longest 1) (sym same) ∙ judged.0 ∙ ap (λ ts. Ok ts) move in
    record {
      answer = answer;
      counted = judged.1 ∙ sym (length-map runs joined) ∙ ap length move;
      within = texts_within longest book (texts_with rows (tune_runs (contents_of whole))) answer;
    }
