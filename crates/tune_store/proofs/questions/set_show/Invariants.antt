use Rattle.std.proofs.Common.{◌≡◌, ◌++◌, drop}
use Rattle.tune_store.specs.State.{NumbersRiseFrom}
use Rattle.tune_store.specs.Questions.{rows_at}
use Rattle.tune_store.proofs.questions.set_show.Given as goal

abbrev pub invariant-loop-number : goal.invariant-loop-number
invariant-loop-number g l = record {
  fetched : g.C.Catalog.fetched l.fn.catalog l.catalog;
  rows : g.C.Catalog.honest l.catalog
      → let tunes = (g.C.Catalog.state l.fn.catalog).tunes in
      NumbersRiseFrom 0 tunes → l.rows.items ++ rows_at tunes (drop l.number-index l.number-items) ≡ rows_at tunes l.number-items;
}
