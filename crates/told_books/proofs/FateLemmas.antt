-- Which lines of a file header some tune carries.
use Rattle.std.proofs.Common.{◌≡◌, ℕ, ◌+◌, ◌≤◌, false, List, [], ◌∷◌, length, ◌++◌, append-nil, refl, ap, sym, ◌∙◌, arith}
use Rattle.std.proofs.lemmas.Bool.{cond_both}
use Rattle.std.proofs.Common.{drop}
use Rattle.std.proofs.lemmas.List.{length-drop}
use Rattle.abc_fields.specs.Bytes.{byte_order_mark, begins_with}
use Rattle.abc_fields.specs.Lines.{Span, spans_of}
use Rattle.abc_fields.specs.Books.{without_mark}
use Rattle.abc_fields.specs.Inside.LinesLeft.{contents_of}
use Rattle.abc_fields.proofs.BookLemmas.{lines_length}
use Rattle.abc_fields.proofs.LineOffsets.{spans_have_lines}
use Rattle.abc_fields.proofs.RuleSums.{joined-length}
use Rattle.abc_fields.specs.Tunes.{is_empty_line, is_tune_start, joined}
use Rattle.abc_fields.specs.declared.carry_rules.CarryRule.TheVariants.{Never}
use Rattle.told_books.specs.Fates.{some_carries, tunes_begun, stand_after, after_empty, after_other}
use Rattle.told_books.specs.FateLines.{DroppedRow, dropped_from}
use Rattle.told_books.specs.declared.fates.Fate.{Fate}
use Rattle.told_books.specs.declared.fates.Stand.{Stand}
use Rattle.told_books.specs.declared.fates.Stand.TheVariants.{Front, Header, Tune, Outside}

-- no tune carries a line of the rule that none does
pub never_carried : (runs : List (List (List ℕ))) → some_carries runs Never ≡ false
never_carried [] = refl
never_carried (run ∷ runs) = never_carried runs

pub at_empty : (stand : Stand) → tunes_begun (after_empty stand) ≡ tunes_begun stand
at_empty Front = refl
at_empty (Header above) = refl
at_empty (Tune number) = refl
at_empty (Outside tunes) = refl

pub at_other : (stand : Stand) (line : List ℕ) → tunes_begun (after_other stand line) ≡ tunes_begun stand
at_other Front line = refl
at_other (Header above) line = refl
at_other (Tune number) line = refl
at_other (Outside tunes) line = refl

-- a line begins at most one tune
pub one_more : (stand : Stand) (line : List ℕ) → tunes_begun (stand_after stand line) ≤ tunes_begun stand + 1
one_more stand line =
    let P : Stand → Type 0 = λ s. tunes_begun s ≤ tunes_begun stand + 1 in
    cond_both (is_empty_line line) (after_empty stand) _ P (λ empty. omega (arith, at_empty stand))
    (λ some. cond_both (is_tune_start line) (Tune (tunes_begun stand + 1)) (after_other stand line) P (λ starts. omega arith)
    (λ other. omega (arith, at_other stand line)))

dropped_none : (number : ℕ) (fates : List Fate) → dropped_from number fates [] ≡ []
dropped_none number [] = refl
dropped_none number (fate ∷ fates) = refl

-- where no line is left, none is dropped
pub dropped_end : (rows : List DroppedRow) (number : ℕ) (fates : List Fate) (left : List (List ℕ)) → left ≡ [] → rows ≡ rows ++ dropped_from number fates left
dropped_end rows number fates left none = sym (ap (λ ls. rows ++ dropped_from number fates ls) none ∙ ap (λ rs. rows ++ rs) (dropped_none number fates)
    ∙ append-nil rows)

-- THE LINES OF A BOOK
lines_fewer : (lines : List (List ℕ)) → length lines ≤ length (joined lines)
lines_fewer [] = omega arith
lines_fewer (line ∷ lines) = omega (arith, joined-length line lines, lines_fewer lines)

mark_length : (book : List ℕ) → length (without_mark book) ≤ length book
mark_length book = cond_both (begins_with book byte_order_mark) (drop (length byte_order_mark) book) book (λ text. length text ≤ length book)
    (λ marked. omega (arith, length-drop (length byte_order_mark) book)) (λ none. omega arith)

-- the lines of a book take at most one byte more than it has
pub book_room : (book : List ℕ) (spans : List Span) → spans ≡ spans_of (without_mark book) → length (joined (contents_of spans)) ≤ length book + 1
book_room book spans same =
    rw (same, spans_have_lines (without_mark book)) (omega (arith, lines_length (without_mark book), mark_length book))

-- and are no more
pub few_lines : (book : List ℕ) (spans : List Span) → spans ≡ spans_of (without_mark book) → length (contents_of spans) ≤ length book + 1
few_lines book spans same = omega (arith, lines_fewer (contents_of spans), book_room book spans same)
