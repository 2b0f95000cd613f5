-- The laws of what is told, as a reader of the lines of a book has them.
use Rattle.std.proofs.Common.{◌≡◌, ℕ, List, length, map, count_by, ap, sym, ◌∙◌, subst}
use Rattle.std.proofs.lemmas.List.{length-map}
use Rattle.abc_fields.specs.Lines.{Span, spans_of}
use Rattle.abc_fields.specs.Books.{without_mark, book_runs}
use Rattle.abc_fields.specs.FileHeaders.{file_header}
use Rattle.abc_fields.specs.Inside.LinesLeft.{contents_of}
use Rattle.abc_fields.proofs.LineOffsets.{spans_have_lines}
use Rattle.told_books.specs.Fates.{book_lines, fates_of, is_dropped}
use Rattle.told_books.specs.ToldTunes.{fault_of_tune, told_tunes_from}
use Rattle.told_books.specs.FateLines.{dropped_row, dropped_from, TellsTunes, TellsCarriedLines}
use Rattle.told_books.specs.declared.fates.Fate.{Fate}
use Rattle.told_books.specs.declared.dropped.DroppedLine.{DroppedLine}
use Rattle.told_books.specs.declared.tunes.ToldTune.{ToldTune}
use Rattle.told_books.proofs.KeptLaw.{tunes_told, fates_length}
use Rattle.told_books.proofs.CarriedLaw.{carried_told}
use Rattle.told_books.proofs.AnswerLaw.{faults, book_faults, dropped_count}

-- the lines of these spans are those of the book
pub lines_same : (book : List ℕ) (spans : List Span) → spans ≡ spans_of (without_mark book) → contents_of spans ≡ book_lines book
lines_same book spans same = ap contents_of same ∙ spans_have_lines (without_mark book)

-- a reader of the lines of a book, and the fates that were told of them
pub record AreTold (book : List ℕ) (spans : List Span) (fates : List Fate) : Type 0 where
  pub lines : spans ≡ spans_of (without_mark book)
  pub of_lines : fates ≡ fates_of (contents_of spans)

fates_same : (book : List ℕ) (spans : List Span) (fates : List Fate) → AreTold book spans fates → fates ≡ fates_of (book_lines book)
fates_same book spans fates told = told.of_lines ∙ ap fates_of (lines_same book spans told.lines)

pub told_length : (book : List ℕ) (spans : List Span) (fates : List Fate) → AreTold book spans fates → length fates ≡ length (book_lines book)
told_length book spans fates told = ap length (fates_same book spans fates told) ∙ fates_length (book_lines book)

pub told_kept : (book : List ℕ) (spans : List Span) (fates : List Fate) → AreTold book spans fates → TellsTunes fates (book_lines book)
told_kept book spans fates told =
    let P : List Fate → Type 0 = λ fs. TellsTunes fs (book_lines book) in
    subst P (sym (fates_same book spans fates told)) (tunes_told (book_lines book))

pub told_carried : (book : List ℕ) (spans : List Span) (fates : List Fate) → AreTold book spans fates → TellsCarriedLines fates (book_lines book)
told_carried book spans fates told =
    let P : List Fate → Type 0 = λ fs. TellsCarriedLines fs (book_lines book) in
    subst P (sym (fates_same book spans fates told)) (carried_told (book_lines book))

pub told_lost : (book : List ℕ) (spans : List Span) (fates : List Fate) (dropped : List DroppedLine) → AreTold book spans fates
    → map dropped_row dropped ≡ dropped_from 1 fates (contents_of spans) → length dropped ≡ count_by is_dropped fates
told_lost book spans fates dropped told rows =
    let same : length fates ≡ length (contents_of spans) = ap length told.of_lines ∙ fates_length (contents_of spans) in
    sym (length-map dropped dropped_row) ∙ ap length rows ∙ dropped_count 1 fates (contents_of spans) same

pub told_faults : (longest : ℕ) (book : List ℕ) (spans : List Span) (tunes : List ToldTune) → spans ≡ spans_of (without_mark book)
    → tunes ≡ told_tunes_from longest (file_header (contents_of spans)) 1 (contents_of spans) → faults tunes ≡ map (fault_of_tune longest) (book_runs book)
told_faults longest book spans tunes same told =
    ap faults (told ∙ ap (λ lines. told_tunes_from longest (file_header lines) 1 lines) (lines_same book spans same)) ∙ book_faults longest book
