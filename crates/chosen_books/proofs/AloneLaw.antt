-- A book with one tune alone is read as that tune, with the lines before it as its file header.
use Rattle.std.proofs.Common.{◌≡◌, ℕ, ◌≤◌, Bool, true, false, cond, not, ltb, ◌||◌, List, [], ◌∷◌, ◌++◌, length, map, Ok, Err}
use Rattle.std.proofs.Common.{Option, Some, None, refl, ap, sym, ◌∙◌, subst, inl, append_assoc, append-nil}
use Rattle.std.specs.Prelude.{codes}
use Rattle.std.specs.List.{AllByRecursion, list_all}
use Rattle.std.proofs.lemmas.Bool.{le-ltb, or_parts, and_parts, not-true}
use Rattle.abc_fields.specs.Bytes.{line_feed}
use Rattle.abc_fields.specs.Limits.{longest_book}
use Rattle.abc_fields.specs.Lines.{lines_of, has_no_ending}
use Rattle.abc_fields.specs.LineKinds.{is_field_line, is_continuation, is_comment}
use Rattle.abc_fields.specs.Tunes.{is_empty_line, is_tune_start, tune_run, tune_runs, joined, has_key, IsTuneLine}
use Rattle.abc_fields.specs.FileHeaders.{block_of, first_block, file_header, is_header_line, with_header}
use Rattle.abc_fields.specs.Books.{Texts, book_runs, book_answer, book_of_runs, runs_answer, whole_runs}
use Rattle.abc_fields.specs.declared.book.BookFault.TheVariants.{BadTune}
use Rattle.abc_fields.specs.declared.book.TuneFault.TheVariants.{NoKey, TooLong}
use Rattle.abc_fields.specs.declared.book.TuneFault.{TuneFault}
use Rattle.abc_fields.proofs.LineLaw.{pieces_of_line}
use Rattle.told_books.specs.ToldTunes.{fault_of_tune}
use Rattle.abc_fields.specs.declared.book.BookFault.{BookFault}
use Rattle.chosen_books.specs.Inside.Fronts.{AllPlain, IsCarriedLine, IsJudged}

-- LINES
line_first : (line rest : List ℕ) → has_no_ending line ≡ true → lines_of (line ++ (line_feed ∷ rest)) ≡ line ∷ lines_of rest
line_first line rest plain = ap (map (λ p. p.content)) (pieces_of_line line (line_feed ∷ []) rest plain (inl refl))

pub lines_joined : (lines : List (List ℕ)) (rest : List ℕ) → AllPlain lines → lines_of (joined lines ++ rest) ≡ lines ++ lines_of rest
lines_joined [] rest plain = refl
lines_joined (line ∷ lines) rest plain =
    ap lines_of (append_assoc (line ++ line_feed ∷ []) (joined lines) rest ∙ append_assoc line (line_feed ∷ []) (joined lines ++ rest))
    ∙ line_first line (joined lines ++ rest) plain.0
    ∙ ap (λ ls. line ∷ ls) (lines_joined lines rest plain.1)

carried_plain : (lines : List (List ℕ)) → AllByRecursion IsCarriedLine lines → AllPlain lines
carried_plain [] each = tt
carried_plain (line ∷ lines) each = (each.0.plain, carried_plain lines each.1)

tune_plain : (lines : List (List ℕ)) → AllByRecursion IsTuneLine lines → AllPlain lines
tune_plain [] each = tt
tune_plain (line ∷ lines) each = (each.0.plain, tune_plain lines each.1)

-- the lines of a book with one tune
abbrev alone : List (List ℕ) → List (List ℕ) → List (List ℕ)
alone header run = [] ∷ (header ++ ([] ∷ (codes "X:" ∷ run)))

-- its bytes
abbrev pub alone_bytes : List (List ℕ) → List (List ℕ) → List ℕ
alone_bytes header run = (codes "\n" ++ joined header) ++ (codes "\nX:\n" ++ joined run)

alone_lines : (header run : List (List ℕ)) → AllByRecursion IsCarriedLine header → AllByRecursion IsTuneLine run
    → lines_of (alone_bytes header run) ≡ alone header run
alone_lines header run headers tunes =
    let behind : lines_of (codes "\nX:\n" ++ joined run) ≡ [] ∷ (codes "X:" ∷ run) =
    line_first [] (codes "X:\n" ++ joined run) refl
    ∙ ap (λ ls. [] ∷ ls) (line_first (codes "X:") (joined run) refl
    ∙ ap (λ ls. codes "X:" ∷ ls) (ap lines_of (sym (append-nil (joined run))) ∙ lines_joined run [] (tune_plain run tunes) ∙ append-nil run)) in
    line_first [] (joined header ++ (codes "\nX:\n" ++ joined run)) refl
    ∙ ap (λ ls. [] ∷ ls) (lines_joined header (codes "\nX:\n" ++ joined run) (carried_plain header headers) ∙ ap (λ ls. header ++ ls) behind)

-- THE FILE HEADER
block_alone : (header rest : List (List ℕ)) → AllByRecursion IsCarriedLine header → block_of (header ++ ([] ∷ rest)) ≡ header
block_alone [] rest each = refl
block_alone (line ∷ header) rest each = rw each.0.full (ap (λ ls. line ∷ ls) (block_alone header rest each.1))

all_allowed : (header : List (List ℕ)) → AllByRecursion IsCarriedLine header → list_all is_header_line header ≡ true
all_allowed [] each = refl
all_allowed (line ∷ header) each = rw each.0.allowed (all_allowed header each.1)

header_by_block : (block header : List (List ℕ)) → block ≡ header → AllByRecursion IsCarriedLine header
    → cond (list_all is_header_line block) block [] ≡ header
header_by_block block header same each = rw same (rw (all_allowed header each) refl)

header_alone : (header run : List (List ℕ)) → AllByRecursion IsCarriedLine header → file_header (alone header run) ≡ header
header_alone [] run each = refl
header_alone (line ∷ header) run each =
    let block : first_block (alone (line ∷ header) run) ≡ line ∷ header =
    rw each.0.full (ap (λ ls. line ∷ ls) (block_alone header (codes "X:" ∷ run) each.1)) in
    header_by_block (first_block (alone (line ∷ header) run)) (line ∷ header) block each

-- THE TUNE
starts_none : (line : List ℕ) → is_header_line line ≡ true → is_tune_start line ≡ false
starts_none line allowed =
    not-true (is_tune_start line) (and_parts (not (is_tune_start line)) (is_field_line line || is_continuation line || is_comment line) allowed).0

skip_header : (header rest : List (List ℕ)) → AllByRecursion IsCarriedLine header → tune_runs (header ++ rest) ≡ tune_runs rest
skip_header [] rest each = refl
skip_header (line ∷ header) rest each = rw (starts_none line each.0.allowed) (skip_header header rest each.1)

run_whole : (run : List (List ℕ)) → AllByRecursion IsTuneLine run → tune_run run ≡ run
run_whole [] each = refl
run_whole (line ∷ run) each = rw each.0.inside (ap (λ ls. line ∷ ls) (run_whole run each.1))

runs_none : (run : List (List ℕ)) → AllByRecursion IsTuneLine run → tune_runs run ≡ []
runs_none [] each = refl
runs_none (line ∷ run) each = rw (or_parts (is_empty_line line) (is_tune_start line) each.0.inside).1 (runs_none run each.1)

runs_alone : (header run : List (List ℕ)) → AllByRecursion IsCarriedLine header → AllByRecursion IsTuneLine run → tune_runs (alone header run) ≡ run ∷ []
runs_alone header run headers tunes =
    let start : tune_runs ([] ∷ (codes "X:" ∷ run)) ≡ tune_run run ∷ tune_runs run = refl in
    skip_header header ([] ∷ (codes "X:" ∷ run)) headers ∙ start ∙ ap (λ r. r ∷ tune_runs run) (run_whole run tunes) ∙ ap (λ rs. run ∷ rs) (runs_none run tunes)

-- the tunes of a book with one tune: this one, with what it carries
pub alone_runs : (header run : List (List ℕ)) → AllByRecursion IsCarriedLine header → AllByRecursion IsTuneLine run
    → book_runs (alone_bytes header run) ≡ with_header header run ∷ []
alone_runs header run headers tunes =
    ap whole_runs (alone_lines header run headers tunes)
    ∙ ap (λ h. map (with_header h) (tune_runs (alone header run))) (header_alone header run headers)
    ∙ ap (map (with_header header)) (runs_alone header run headers tunes)

-- ITS ANSWER
-- the answer to a tune that may have this fault
abbrev pub answer_by : Option TuneFault → List ℕ → Texts
answer_by None text = Ok (text ∷ [])
answer_by (Some fault) text = Err (BadTune 1 fault)

by_fault : (longest : ℕ) (run : List (List ℕ)) → runs_answer longest 1 (run ∷ []) ≡ answer_by (fault_of_tune longest run) (joined run)
by_fault longest run = by (has_key run) (ltb longest (length (joined run)))
  where
    by : (keyed long : Bool) → cond (not keyed) (Err (BadTune 1 NoKey)) (cond long (Err (BadTune 1 TooLong)) (Ok (joined run ∷ [])))
        ≡ answer_by (cond (not keyed) (Some NoKey) (cond long (Some TooLong) None)) (joined run)
    by false long = refl
    by true true = refl
    by true false = refl

pub alone_answer : (longest : ℕ) (book : List ℕ) (run : List (List ℕ)) → book_runs book ≡ run ∷ [] → length book ≤ longest_book
    → book_answer longest book ≡ answer_by (fault_of_tune longest run) (joined run)
alone_answer longest book run runs short =
    rw (le-ltb longest_book (length book) short) (ap (book_of_runs longest) runs ∙ by_fault longest run)

-- WHAT IT IS ANSWERED
texts_by : (fault : Option TuneFault) (text : List ℕ) (texts : List (List ℕ)) → answer_by fault text ≡ Ok texts → (fault ≡ None) × (texts ≡ text ∷ [])
texts_by None text texts e = (refl, let h : Ok (text ∷ []) ≡ Ok texts = e in cc)
texts_by (Some fault) text texts e = absurd (let h : Err (BadTune 1 fault) ≡ Ok texts = e in cc)

pub judged_ok : (longest : ℕ) (lines : List (List ℕ)) (book : List ℕ) (texts : List (List ℕ)) → book_runs book ≡ lines ∷ [] → length book ≤ longest_book
    → book_answer longest book ≡ Ok texts → (fault_of_tune longest lines ≡ None) × (texts ≡ joined lines ∷ [])
judged_ok longest lines book texts runs short e =
    texts_by (fault_of_tune longest lines) (joined lines) texts (sym (alone_answer longest book lines runs short) ∙ e)

fault_by : (longest : ℕ) (lines : List (List ℕ)) (own : Option TuneFault) (text : List ℕ) (fault : BookFault) → fault_of_tune longest lines ≡ own
    → answer_by own text ≡ Err fault → IsJudged longest lines (Err fault)
fault_by longest lines None text fault same e = absurd (let h : Ok (text ∷ []) ≡ Err fault = e in cc)
fault_by longest lines (Some own) text fault same e =
    let is : BadTune 1 own ≡ fault = let h : Err (BadTune 1 own) ≡ Err fault = e in cc in
    subst (λ f. IsJudged longest lines (Err f)) is same

pub judged_err : (longest : ℕ) (lines : List (List ℕ)) (book : List ℕ) (fault : BookFault) → book_runs book ≡ lines ∷ [] → length book ≤ longest_book
    → book_answer longest book ≡ Err fault → IsJudged longest lines (Err fault)
judged_err longest lines book fault runs short e =
    fault_by longest lines (fault_of_tune longest lines) (joined lines) fault refl (sym (alone_answer longest book lines runs short) ∙ e)
