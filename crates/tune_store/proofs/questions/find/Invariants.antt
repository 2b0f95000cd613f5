use Rattle.std.proofs.Common.{◌≡◌, ◌++◌, drop}
use Rattle.tune_store.proofs.CandidateLemmas.{rows_at_places}
use Rattle.tune_store.proofs.questions.find.Given as goal

abbrev pub invariant-loop-place : goal.invariant-loop-place
invariant-loop-place g l = record {
  fetched : g.C.Catalog.fetched l.fn.catalog l.catalog;
  since : g.C.Catalog.fetched l.initial.catalog l.catalog;
  rows : g.C.Catalog.honest l.catalog
      → let tunes = (g.C.Catalog.state l.fn.catalog).tunes in
      l.rows.items ++ rows_at_places l.notes l.query tunes (drop l.place-index l.place-items) ≡ rows_at_places l.notes l.query tunes l.place-items;
}
