use Rattle.std.proofs.Common.{◌≡◌, ◌≤◌, ◌<◌, ◌^◌, ◌+◌, ◌++◌, ℕ, List, [], length, drop, ap, sym, subst, ◌∙◌, arith}
use Rattle.std.specs.List.{AllByRecursion}
use Rattle.std.proofs.lemmas.List.{append-nil, take_all, length-drop, nil_from_length}
use Rattle.abc_fields.specs.Tunes.{IsTuneText}
use Rattle.tune_books.specs.WrittenBooks.{written_tunes, places_from, written_set}
use Rattle.tune_books.specs.ReadBack.{GivesBack}
use Rattle.tune_books.proofs.ReadBack.{set_gives_back}
use Rattle.tune_books.proofs.book_writer.write_set.Goals as goal

pub returns-clause-law : goal.returns-clause-law
returns-clause-law c =
    let texts = c.args.texts.now in
    let i = c.loop-i.i in
    let writer = c.loop-i.writer in
    let ends : length texts ≤ i = omega arith in
    let none : drop i texts ≡ [] = nil_from_length (drop i texts) (omega (arith, length-drop i texts)) in
    let left : written_tunes (places_from (i + 1) (drop i texts)) (drop i texts) ≡ [] = ap (λ ts. written_tunes (places_from (i + 1) ts) ts) none in
    let bytes : c.into_book.result ≡ written_set c.args.name.now texts =
    c.into_book.ensures ∙ sym (ap (λ t. writer ++ t) left ∙ append-nil writer) ∙ c.loop-i.invariant.written in
    let P : List (List ℕ) → Type 0 = λ ts. AllByRecursion IsTuneText ts in
    let each = subst P (take_all i texts ends) c.loop-i.invariant.each in
    let few : length texts < 2 ^ 64 = omega arith in
    let Q : List ℕ → Type 0 = λ book. GivesBack book texts in
    subst Q (sym bytes) (set_gives_back c.args.name.now texts c.requires few each)
