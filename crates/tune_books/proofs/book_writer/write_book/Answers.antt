use Rattle.std.proofs.Common.{◌≡◌, ◌≤◌, ◌++◌, ℕ, List, [], length, drop, ap, sym, subst, ◌∙◌, arith}
use Rattle.std.specs.List.{AllByRecursion}
use Rattle.std.proofs.lemmas.List.{append-nil, take_all, length-drop, nil_from_length}
use Rattle.abc_fields.specs.Tunes.{IsTuneText}
use Rattle.tune_books.specs.WrittenBooks.{written_tunes, written_book}
use Rattle.tune_books.specs.ReadBack.{GivesBack}
use Rattle.tune_books.proofs.ReadBack.{book_gives_back, numbers_small}
use Rattle.tune_books.proofs.book_writer.write_book.Goals as goal

pub returns-clause-law : goal.returns-clause-law
returns-clause-law c =
    let numbers = c.args.numbers.now in
    let texts = c.args.texts.now in
    let i = c.loop-i.i in
    let writer = c.loop-i.writer in
    let ends : length texts ≤ i = omega arith in
    let none : drop i numbers ≡ [] = nil_from_length (drop i numbers) (omega (arith, length-drop i numbers)) in
    let left : written_tunes (drop i numbers) (drop i texts) ≡ [] = ap (λ ns. written_tunes ns (drop i texts)) none in
    let bytes : c.into_book.result ≡ written_book numbers texts =
    c.into_book.ensures ∙ sym (ap (λ t. writer ++ t) left ∙ append-nil writer) ∙ c.loop-i.invariant.written in
    let P : List (List ℕ) → Type 0 = λ ts. AllByRecursion IsTuneText ts in
    let each = subst P (take_all i texts ends) c.loop-i.invariant.each in
    let Q : List ℕ → Type 0 = λ book. GivesBack book texts in
    subst Q (sym bytes) (book_gives_back numbers texts c.requires (numbers_small numbers (λ k. omega (arith, c.type_inv.numbers k))) each)
