use Rattle.std.proofs.Common.{◌≡◌, ◌++◌, ◌≤◌, ◌+◌, drop}
use Rattle.tune_books.specs.WrittenBooks.{written_set}
use Rattle.tune_store.specs.State.{NumbersRiseFrom}
use Rattle.tune_store.specs.Questions.{texts_at}
use Rattle.tune_store.proofs.QuestionLemmas.{set_from}
use Rattle.tune_store.proofs.questions.export_set.Given as goal

abbrev pub invariant-loop-number : goal.invariant-loop-number
invariant-loop-number g l = record {
  fetched : g.C.Catalog.fetched l.fn.catalog l.catalog;
  place : l.place ≤ l.number-index + 1;
  book : g.C.Catalog.honest l.catalog
      → let tunes = (g.C.Catalog.state l.fn.catalog).tunes in
      NumbersRiseFrom 0 tunes
      → l.book ++ set_from l.place tunes (drop l.number-index l.number-items) ≡ written_set l.name (texts_at tunes l.number-items);
}
